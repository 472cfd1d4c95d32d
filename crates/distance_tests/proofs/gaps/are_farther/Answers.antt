use Rattle.std.proofs.Common.{◌≡◌, ◌+◌, ◌*◌, nat_lt, subst}
use Rattle.geom_core.specs.Plane.{Bounds}
use Rattle.distance_tests.specs.Gaps.{are_farther}
use Rattle.distance_tests.proofs.Parted.{gap_is, farther_is}
use Rattle.distance_tests.proofs.gaps.are_farther.Goals as goal

pub returns : goal.returns
returns c =
    let a : Bounds = record { low = c.a.inside.low; high = c.a.inside.high } in
    let b : Bounds = record { low = c.b.inside.low; high = c.b.inside.high } in
    subst (λ (x : Bounds). nat_lt (c.args.d * c.args.d) (c.square.result + c.square-2.result) ≡ are_farther c.args.d x c.args.b.now) c.a.view_is (subst (λ (y : Bounds). nat_lt (c.args.d * c.args.d) (c.square.result + c.square-2.result) ≡ are_farther c.args.d a y) c.b.view_is
    (farther_is c.args.d c.square.result c.square-2.result c.gap-x.result c.gap-y.result a b c.square.ensures.value c.square-2.ensures.value
    (gap_is _ _ _ _ _ c.gap-x.ensures.value c.eastward.ensures.value c.eastward-2.ensures.value c.eastward.ensures.far c.eastward-2.ensures.far)
    (gap_is _ _ _ _ _ c.gap-y.ensures.value c.northward.ensures.value c.northward-2.ensures.value c.northward.ensures.far c.northward-2.ensures.far)))
