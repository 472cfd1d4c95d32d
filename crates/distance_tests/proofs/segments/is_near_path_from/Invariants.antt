use Rattle.spatial_tests.proofs.Paths.{Passed}
use Rattle.distance_tests.specs.Within.{are_near}
use Rattle.distance_tests.proofs.segments.is_near_path_from.Given as goal

abbrev pub invariant-loop-next : goal.invariant-loop-next
invariant-loop-next l = Passed (are_near l.d (record { from = l.a; to = l.b })) l.fn.last l.path l.last l.next-index
