-- The foot of the perpendicular from a point to a segment: where it falls, and how far it is.
use Rattle.std.proofs.Common.{◌≡◌, ℕ, ◌+◌, ◌*◌, ◌<◌, ◌≤◌, ℤ, pos, negsuc, ◌+ℤ◌, ◌-ℤ◌, ◌*ℤ◌, unsigned_abs, true, int_le, int_lt, refl, arith}
use Rattle.std.proofs.lemmas.Int.{ints}
use Rattle.geom_core.specs.Plane.{Point}
use Rattle.geom_core.proofs.Parts.{Parts, itself, minus, times, same_from}
use Rattle.distance_tests.specs.Within.{dot, cross}
use borrow.Author.Differences.{up, down}

plus_is : (a b : ℤ) (p q r s : ℕ) → up a + q ≡ down a + p → up b + s ≡ down b + r → up (a +ℤ b) + (q + s) ≡ down (a +ℤ b) + (p + r)
plus_is a b p q r s e f = omega (arith, ints)

abbrev plus : (a b : ℤ) → Parts a → Parts b → Parts (a +ℤ b)
plus a b x y = record { p = x.p + y.p; q = x.q + y.q; is = plus_is a b x.p x.q y.p y.q x.is y.is }

abbrev dot_parts : (v w : Point) → Parts (dot v w)
dot_parts v w = plus _ _ (times v.x w.x (itself v.x) (itself w.x)) (times v.y w.y (itself v.y) (itself w.y))

abbrev pub cross_parts : (v w : Point) → Parts (cross v w)
cross_parts v w = minus _ _ (times v.x w.y (itself v.x) (itself w.y)) (times v.y w.x (itself v.y) (itself w.x))

-- The way from the foot to the point, by x and by y, times the square of the segment's length.
pub foot_x : (v w : Point) → v.x *ℤ dot w w -ℤ dot v w *ℤ w.x ≡ w.y *ℤ cross v w
foot_x v w = same_from _ _
    (minus _ _ (times _ _ (itself v.x) (dot_parts w w)) (times _ _ (dot_parts v w) (itself w.x)))
    (times _ _ (itself w.y) (cross_parts v w))
    (omega arith)

pub foot_y : (v w : Point) → dot v w *ℤ w.y -ℤ v.y *ℤ dot w w ≡ w.x *ℤ cross v w
foot_y v w = same_from _ _
    (minus _ _ (times _ _ (dot_parts v w) (itself w.y)) (times _ _ (itself v.y) (dot_parts w w)))
    (times _ _ (itself w.x) (cross_parts v w))
    (omega arith)

-- Numbers with a sign by their magnitudes.
pub up_is : (z : ℤ) → int_lt (pos 0) z ≡ true → pos (unsigned_abs z) ≡ z
up_is (pos n) h = refl
up_is (negsuc n) h = cc

pub square_is : (z : ℤ) → z *ℤ z ≡ pos (unsigned_abs z * unsigned_abs z)
square_is (pos n) = refl
square_is (negsuc n) = refl

pub dot_self : (w : Point) → dot w w ≡ pos (unsigned_abs w.x * unsigned_abs w.x + unsigned_abs w.y * unsigned_abs w.y)
dot_self w = rw (square_is w.x, square_is w.y) refl

pub le_test : (m n : ℕ) → int_le (pos m) (pos n) ≡ true → m ≤ n
le_test m n h = grind (arith, ints)

pub lt_test : (m n : ℕ) → int_lt (pos m) (pos n) ≡ true → m < n
lt_test m n h = grind (arith, ints)
