use Rattle.geom_core.specs.Segments.{do_meet}
use Rattle.spatial_tests.proofs.Paths.{Passed}
use Rattle.spatial_tests.proofs.segments.meets_path_from.Given as goal

abbrev pub invariant-loop-next : goal.invariant-loop-next
invariant-loop-next l = Passed (do_meet (record { from = l.a; to = l.b })) l.fn.last l.path l.last l.next-index
