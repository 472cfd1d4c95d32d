use Rattle.std.proofs.Common.{◌∙◌, ap}
use Rattle.std.specs.List.{list_any}
use Rattle.geom_core.specs.Rings.{edges}
use Rattle.geom_core.specs.Segments.{do_meet}
use Rattle.spatial_tests.specs.Sharing.{meets_some}
use Rattle.spatial_tests.proofs.Paths.{rings-met}
use Rattle.spatial_tests.proofs.segments.meets_rings.Goals as goal

pub returns-else-meets_path : goal.returns-else-meets_path
returns-else-meets_path c =
    rings-met (do_meet (record { from = c.args.a; to = c.args.b })) c.args.area.now c.meets_path.result c.meets_holes.result
    (c.meets_path.ensures ∙ ap (λ path. meets_some (record { from = c.args.a; to = c.args.b }) (edges path)) (c.positions.ensures ∙ c.shell.ensures))
    c.if-meets_path.false
    (c.meets_holes.ensures ∙ ap (list_any (λ hole. meets_some (record { from = c.args.a; to = c.args.b }) (edges hole))) c.holes.ensures)
