use Rattle.spatial_tests.specs.Sharing.{segments_of}
use Rattle.spatial_tests.proofs.Paths.{Passed}
use Rattle.distance_tests.specs.Within.{near_some}
use Rattle.distance_tests.proofs.segments.is_path_from_near.Given as goal

abbrev pub invariant-loop-next : goal.invariant-loop-next
invariant-loop-next l = Passed (λ s. near_some l.d s (segments_of l.other)) l.fn.last l.path l.last l.next-index
