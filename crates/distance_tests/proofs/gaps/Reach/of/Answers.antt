use Rattle.std.proofs.Common.{◌≡◌, subst, to_z, of_z, w64}
use Rattle.geom_core.specs.Plane.{Point}
use Rattle.distance_tests.specs.declared.gaps.Reach.{Reach}
use Rattle.distance_tests.specs.Gaps.{reach_of}
use Rattle.distance_tests.proofs.Parted.{lowest_is, highest_is, reach_is}
use Rattle.distance_tests.proofs.gaps.Reach.of.Goals as goal

pub returns : goal.returns
returns c =
    let a : Point = record { x = c.a.inside.x; y = c.a.inside.y } in
    let b : Point = record { x = c.b.inside.x; y = c.b.inside.y } in
    let made : Reach = record { west = to_z w64 (of_z w64 c.lowest.result); east = to_z w64 (of_z w64 c.highest.result); south = to_z w64 (of_z w64 c.lowest-2.result); north = to_z w64 (of_z w64 c.highest-2.result) } in
    subst (λ (x : Point). made ≡ reach_of c.args.d (record { from = x; to = c.args.b })) c.a.view_is (subst (λ (y : Point). made ≡ reach_of c.args.d (record { from = a; to = y })) c.b.view_is
    (reach_is c.args.d (record { from = a; to = b }) c.lowest.result c.highest.result c.lowest-2.result c.highest-2.result
    c.lowest.ensures.far c.highest.ensures.far c.lowest-2.ensures.far c.highest-2.ensures.far
    (lowest_is c.lowest.result a.x b.x c.args.d c.a.invariant.x c.b.invariant.x c.lowest.ensures.value) (highest_is c.highest.result a.x b.x c.args.d c.a.invariant.x c.b.invariant.x c.highest.ensures.value)
    (lowest_is c.lowest-2.result a.y b.y c.args.d c.a.invariant.y c.b.invariant.y c.lowest-2.ensures.value) (highest_is c.highest-2.result a.y b.y c.args.d c.a.invariant.y c.b.invariant.y c.highest-2.ensures.value)))
