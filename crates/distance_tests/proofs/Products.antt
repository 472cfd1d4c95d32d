-- Sums and squares of spans, and their squares compared as natural numbers.
use Rattle.std.proofs.Common.{◌≡◌, ℕ, ◌*◌, ◌≤◌, ℤ, pos, negsuc, ◌+ℤ◌, ◌-ℤ◌, ◌*ℤ◌, ◌≤ℤ◌, int_le, refl, arith, to_z, of_z, w64, FitsSigned, unsigned_abs}
use Rattle.std.specs.Prelude.{nat_le}
use Rattle.std.proofs.lemmas.Int.{ints, to_z-of_z, fits_signed_from_abs, unsigned_abs-mul}
use Rattle.std.proofs.lemmas.Nat.{mul-le}
use Rattle.geom_core.specs.Plane.{Point}
use Rattle.distance_tests.specs.Within.{dot}

pub product-far : (a b : ℤ) → unsigned_abs a ≤ 2_000_000_000 → unsigned_abs b ≤ 2_000_000_000 → unsigned_abs (a *ℤ b) ≤ 4_000_000_000_000_000_000
product-far a b h k = rw (unsigned_abs-mul a b) (mul-le (unsigned_abs a) (unsigned_abs b) 2_000_000_000 2_000_000_000 h k)

-- A number of that size is a word of 64 bits, and so is one of twice the size.
pub passed : (z : ℤ) → unsigned_abs z ≤ 8_000_000_000_000_000_000 → to_z w64 (of_z w64 z) ≡ z
passed z h = to_z-of_z w64 z (fits_signed_from_abs w64 z (omega arith))

sum-far : (a b : ℤ) → unsigned_abs a ≤ 4_000_000_000_000_000_000 → unsigned_abs b ≤ 4_000_000_000_000_000_000 → unsigned_abs (a +ℤ b) ≤ 8_000_000_000_000_000_000
sum-far a b h k = omega (arith, ints)

difference-far : (a b : ℤ) → unsigned_abs a ≤ 4_000_000_000_000_000_000 → unsigned_abs b ≤ 4_000_000_000_000_000_000 → unsigned_abs (a -ℤ b) ≤ 8_000_000_000_000_000_000
difference-far a b h k = omega (arith, ints)

pub sum-fits : (a b : ℤ) → unsigned_abs a ≤ 4_000_000_000_000_000_000 → unsigned_abs b ≤ 4_000_000_000_000_000_000 →
    FitsSigned w64 (to_z w64 (of_z w64 a) +ℤ to_z w64 (of_z w64 b))
sum-fits a b h k = rw (passed a (omega arith), passed b (omega arith)) (fits_signed_from_abs w64 (a +ℤ b) (let far = sum-far a b h k in omega arith))

pub sum-is : (a b s t : ℤ) → a ≡ s → b ≡ t → unsigned_abs a ≤ 4_000_000_000_000_000_000 → unsigned_abs b ≤ 4_000_000_000_000_000_000 →
    to_z w64 (of_z w64 (to_z w64 (of_z w64 a) +ℤ to_z w64 (of_z w64 b))) ≡ s +ℤ t
sum-is a b s t e f h k = rw (passed a (omega arith), passed b (omega arith), passed (a +ℤ b) (sum-far a b h k), e, f) refl

pub difference-fits : (a b : ℤ) → unsigned_abs a ≤ 4_000_000_000_000_000_000 → unsigned_abs b ≤ 4_000_000_000_000_000_000 →
    FitsSigned w64 (to_z w64 (of_z w64 a) -ℤ to_z w64 (of_z w64 b))
difference-fits a b h k = rw (passed a (omega arith), passed b (omega arith)) (fits_signed_from_abs w64 (a -ℤ b) (let far = difference-far a b h k in omega arith))

pub difference-is : (a b s t : ℤ) → a ≡ s → b ≡ t → unsigned_abs a ≤ 4_000_000_000_000_000_000 → unsigned_abs b ≤ 4_000_000_000_000_000_000 →
    to_z w64 (of_z w64 (to_z w64 (of_z w64 a) -ℤ to_z w64 (of_z w64 b))) ≡ s -ℤ t
difference-is a b s t e f h k = rw (passed a (omega arith), passed b (omega arith), passed (a -ℤ b) (difference-far a b h k), e, f) refl

pub difference-passed-far : (a b : ℤ) → unsigned_abs a ≤ 4_000_000_000_000_000_000 → unsigned_abs b ≤ 4_000_000_000_000_000_000 →
    unsigned_abs (to_z w64 (of_z w64 (to_z w64 (of_z w64 a) -ℤ to_z w64 (of_z w64 b)))) ≤ 8_000_000_000_000_000_000
difference-passed-far a b h k = rw (passed a (omega arith), passed b (omega arith), passed (a -ℤ b) (difference-far a b h k)) (difference-far a b h k)

-- No square is below 0.
pub square-up : (z : ℤ) → pos 0 ≤ℤ (z *ℤ z)
square-up (pos n) = omega (arith, ints)
square-up (negsuc n) = omega (arith, ints)

pub dot-up : (v : Point) → pos 0 ≤ℤ dot v v
dot-up v = let a = square-up v.x in let b = square-up v.y in up (v.x *ℤ v.x) (v.y *ℤ v.y) a b
  where
    up : (a b : ℤ) → pos 0 ≤ℤ a → pos 0 ≤ℤ b → pos 0 ≤ℤ (a +ℤ b)
    up a b h k = omega (arith, ints)

-- Numbers that are not below 0 are compared as natural numbers.
pub close-is : (u n : ℕ) (z : ℤ) → u ≡ unsigned_abs z → pos 0 ≤ℤ z → nat_le u n ≡ int_le z (pos n)
close-is u n (pos k) e h = rw e refl
close-is u n (negsuc k) e h = absurd (omega (arith, ints))

pub line-is : (u n l : ℕ) (z w : ℤ) → u ≡ unsigned_abs z → l ≡ unsigned_abs w → pos 0 ≤ℤ w →
    nat_le (u * u) (n * l) ≡ int_le (z *ℤ z) (pos n *ℤ w)
line-is u n l z (negsuc m) e f h = absurd (omega (arith, ints))
line-is u n l (pos k) (pos m) e f h = rw (e, f) refl
line-is u n l (negsuc k) (pos m) e f h = rw (e, f) refl
