use Rattle.std.proofs.Common.{◌∙◌, ap}
use Rattle.std.specs.List.{list_any}
use Rattle.geom_core.specs.Rings.{edges}
use Rattle.spatial_tests.specs.Sharing.{segments_of}
use Rattle.spatial_tests.proofs.Paths.{rings-met}
use Rattle.distance_tests.specs.Within.{near_some, are_any_near}
use Rattle.distance_tests.proofs.segments.are_rings_near.Goals as goal

pub returns-else-is_path_near : goal.returns-else-is_path_near
returns-else-is_path_near c =
    rings-met (λ s. near_some c.args.d s (segments_of c.args.other.now)) c.args.area.now c.is_path_near.result c.are_holes_near.result
    (c.is_path_near.ensures ∙ ap (λ path. are_any_near c.args.d (edges path) (segments_of c.args.other.now)) (c.positions.ensures ∙ c.shell.ensures))
    c.if-is_path_near.false
    (c.are_holes_near.ensures ∙ ap (list_any (λ hole. are_any_near c.args.d (edges hole) (segments_of c.args.other.now))) c.holes.ensures)
