-- A valid shape is what its reading gives.
use Rattle.std.proofs.Common.{◌≡◌, Bool, true, false, List, ℤ, length, Result, Ok, Err, refl, ap, subst, arith}
use Rattle.std.specs.Prelude.{nat_lt, ◌&&◌, ◌+◌, sum_by, if◌then◌else◌}
use Rattle.wfs_ends.proofs.Turns.{if_ok, ok_is}
use Rattle.geom_core.specs.declared.fault.GeomFault.{GeomFault}
use Rattle.geom_core.specs.declared.fault.GeomFault.TheVariants.{OutOfRange, TooMany, TooFew, NotClosed, HoleOutside}
use Rattle.geom_core.specs.Plane.{Point, IsCoordinate, IsPosition, Area}
use Rattle.geom_core.specs.Shapes.{IsLine, IsRing, IsPolygon, is_coordinate, is_closed, are_holes_within, position_of, line_of, ring_of, polygon_of}

pub position_is : (p : Point) → IsPosition p → position_of p.x p.y ≡ Ok p
position_is p h =
    let x : is_coordinate p.x ≡ true = grind (arith, h.x.from, h.x.to) in
    let y : is_coordinate p.y ≡ true = grind (arith, h.y.from, h.y.to) in
    rw (x, y) refl

pub line_is : (line : List Point) → IsLine line → line_of line ≡ Ok line
line_is line h =
    let many : nat_lt 10_000 (length line) ≡ false = grind (arith, h.many) in
    let few : nat_lt (length line) 2 ≡ false = grind (arith, h.few) in
    rw (many, few) refl

pub ring_is : (ring : List Point) → IsRing ring → ring_of ring ≡ Ok ring
ring_is ring h =
    let many : nat_lt 10_000 (length ring) ≡ false = grind (arith, h.many) in
    let few : nat_lt (length ring) 4 ≡ false = grind (arith, h.few) in
    let closed : is_closed ring ≡ true = h.closed in
    rw (many, few, closed) refl

pub area_is : (area : Area) → IsPolygon area.shell area.holes → polygon_of area.shell area.holes ≡ Ok area
area_is area h =
    let many : nat_lt 10_000 (length area.shell + sum_by length area.holes) ≡ false = grind (arith, h.many) in
    let inside : are_holes_within area.shell area.holes ≡ true = h.inside in
    rw (many, inside) refl

-- ---- what a reading gives is valid, and what it was given

-- a reading that did not end at a test
pub without : {E A : Type 0} (b : Bool) (r : Result A E) (d : E) (y : A) → (if b then Err d else r) ≡ Ok y → (b ≡ false) × (r ≡ Ok y)
without true r d y e = absurd cc
without false r d y e = (refl, e)

both_true : (a b : Bool) → (a && b) ≡ true → (a ≡ true) × (b ≡ true)
both_true true b e = (refl, e)
both_true false b e = absurd cc

coordinate_from : (z : ℤ) → is_coordinate z ≡ true → IsCoordinate z
coordinate_from z e = record { from = grind (arith, e); to = grind (arith, e) }

pub position_gives : (x y : ℤ) (p : Point) → position_of x y ≡ Ok p → (x ≡ p.x) × (y ≡ p.y) × IsPosition p
position_gives x y p e =
    let w = if_ok (is_coordinate x && is_coordinate y) (Ok (record { x = x; y = y })) OutOfRange p e in
    let is = ok_is GeomFault _ _ w.1 in
    let both = both_true (is_coordinate x) (is_coordinate y) w.0 in
    (ap (λ q. q.x) is, ap (λ q. q.y) is, subst IsPosition is (record { x = coordinate_from x both.0; y = coordinate_from y both.1 }))

pub line_gives : (ps line : List Point) → line_of ps ≡ Ok line → (ps ≡ line) × IsLine line
line_gives ps line e =
    let few = without (nat_lt 10_000 (length ps)) _ TooMany line e in
    let many = without (nat_lt (length ps) 2) _ TooFew line few.1 in
    let is = ok_is GeomFault ps line many.1 in
    let at_most = few.0 in
    let at_least = many.0 in
    (is, subst IsLine is (record { few = grind arith; many = grind arith }))

pub ring_gives : (ps ring : List Point) → ring_of ps ≡ Ok ring → (ps ≡ ring) × IsRing ring
ring_gives ps ring e =
    let few = without (nat_lt 10_000 (length ps)) _ TooMany ring e in
    let many = without (nat_lt (length ps) 4) _ TooFew ring few.1 in
    let closed = if_ok (is_closed ps) (Ok ps) NotClosed ring many.1 in
    let is = ok_is GeomFault ps ring closed.1 in
    let at_most = few.0 in
    let at_least = many.0 in
    (is, subst IsRing is (record { few = grind arith; many = grind arith; closed = closed.0 }))

pub area_gives : (shell : List Point) (holes : List (List Point)) (area : Area) → polygon_of shell holes ≡ Ok area → (shell ≡ area.shell) × (holes ≡ area.holes) × IsPolygon area.shell area.holes
area_gives shell holes area e =
    let few = without (nat_lt 10_000 (length shell + sum_by length holes)) _ TooMany area e in
    let inside = if_ok (are_holes_within shell holes) (Ok (record { shell = shell; holes = holes })) HoleOutside area few.1 in
    let is = ok_is GeomFault _ _ inside.1 in
    let at_most = few.0 in
    (ap (λ a. a.shell) is, ap (λ a. a.holes) is, subst (λ a. IsPolygon a.shell a.holes) is (record { many = grind arith; inside = inside.0 }))
