use Rattle.std.proofs.Common.{◌∙◌, ap}
use Rattle.std.specs.List.{list_any}
use Rattle.geom_core.specs.Rings.{edges}
use Rattle.spatial_tests.specs.Sharing.{meets_some, do_any_meet, segments_of}
use Rattle.spatial_tests.proofs.Paths.{rings-met}
use Rattle.spatial_tests.proofs.segments.do_rings_meet.Goals as goal

pub returns-else-does_path_meet : goal.returns-else-does_path_meet
returns-else-does_path_meet c =
    rings-met (λ s. meets_some s (segments_of c.args.other.now)) c.args.area.now c.does_path_meet.result c.do_holes_meet.result
    (c.does_path_meet.ensures ∙ ap (λ path. do_any_meet (edges path) (segments_of c.args.other.now)) (c.positions.ensures ∙ c.shell.ensures))
    c.if-does_path_meet.false
    (c.do_holes_meet.ensures ∙ ap (list_any (λ hole. do_any_meet (edges hole) (segments_of c.args.other.now))) c.holes.ensures)
