use Rattle.std.proofs.Common.{◌≡◌, ◌∙◌, sym, true}
use Rattle.geom_core.specs.Plane.{are_apart, box_between}
use Rattle.spatial_tests.proofs.Apart.{meets_none_near}
use Rattle.spatial_tests.proofs.segments.meets_geometry.Goals as goal

pub returns-then-is_apart : goal.returns-then-is_apart
returns-then-is_apart c =
    let apart : are_apart (box_between c.args.a c.args.b) c.bounds.result ≡ true =
    rw (← c.between.ensures) (sym c.is_apart.ensures ∙ c.if-is_apart.true) in
    meets_none_near (record { from = c.args.a; to = c.args.b }) c.args.other.now c.bounds.result c.bounds.ensures.least apart
