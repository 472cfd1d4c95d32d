use Rattle.std.proofs.Common.{sym, ap, ◌∙◌}
use Rattle.geom_core.specs.Plane.{Bounds}
use Rattle.distance_tests.specs.Gaps.{are_farther}
use Rattle.distance_tests.proofs.Parted.{segment_apart}
use Rattle.distance_tests.proofs.segments.is_near_geometry.Goals as goal

pub returns-then-are_farther : goal.returns-then-are_farther
returns-then-are_farther c =
    segment_apart c.args.d (record { from = c.args.a; to = c.args.b }) c.args.other.now c.bounds.result c.bounds.ensures.least
    (ap (λ (m : Bounds). are_farther c.args.d m c.bounds.result) (sym c.between.ensures) ∙ (sym c.are_farther.ensures ∙ c.if-are_farther.true))
