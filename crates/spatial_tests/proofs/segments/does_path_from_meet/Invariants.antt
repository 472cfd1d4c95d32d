use Rattle.spatial_tests.specs.Sharing.{meets_some, segments_of}
use Rattle.spatial_tests.proofs.Paths.{Passed}
use Rattle.spatial_tests.proofs.segments.does_path_from_meet.Given as goal

abbrev pub invariant-loop-next : goal.invariant-loop-next
invariant-loop-next l = Passed (λ s. meets_some s (segments_of l.other)) l.fn.last l.path l.last l.next-index
