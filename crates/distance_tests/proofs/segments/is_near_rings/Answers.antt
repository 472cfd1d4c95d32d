use Rattle.std.proofs.Common.{◌∙◌, ap}
use Rattle.std.specs.List.{list_any}
use Rattle.geom_core.specs.Rings.{edges}
use Rattle.spatial_tests.proofs.Paths.{rings-met}
use Rattle.distance_tests.specs.Within.{are_near, near_some}
use Rattle.distance_tests.proofs.segments.is_near_rings.Goals as goal

pub returns-else-is_near_path : goal.returns-else-is_near_path
returns-else-is_near_path c =
    rings-met (are_near c.args.d (record { from = c.args.a; to = c.args.b })) c.args.area.now c.is_near_path.result c.is_near_holes.result
    (c.is_near_path.ensures ∙ ap (λ path. near_some c.args.d (record { from = c.args.a; to = c.args.b }) (edges path)) (c.positions.ensures ∙ c.shell.ensures))
    c.if-is_near_path.false
    (c.is_near_holes.ensures ∙ ap (list_any (λ hole. near_some c.args.d (record { from = c.args.a; to = c.args.b }) (edges hole))) c.holes.ensures)
