-- Signs of differences, and products of spans.
use Rattle.std.proofs.Common.{◌≡◌, ◌≤◌, zero, suc, ℤ, pos, negsuc, ◌-ℤ◌, ◌*ℤ◌, ◌≤ℤ◌, ◌<ℤ◌, refl, sym, arith, to_z, of_z, w64, FitsSigned, unsigned_abs}
use Rattle.std.proofs.lemmas.Int.{ints, to_z-of_z, fits_signed_from_abs}
use Rattle.geom_core.specs.Plane.{Point}
use Rattle.geom_core.specs.Segments.{sign_of, sign}

-- The sign of a difference.
pub sign_of-above : (a b : ℤ) → b <ℤ a → sign_of (a -ℤ b) ≡ pos 1
sign_of-above a b h = above (a -ℤ b) (omega (arith, ints))
  where
    above : (z : ℤ) → pos 0 <ℤ z → sign_of z ≡ pos 1
    above (pos zero) h = absurd (omega (arith, ints))
    above (pos (suc n)) h = refl
    above (negsuc n) h = absurd (omega (arith, ints))

pub sign_of-below : (a b : ℤ) → a <ℤ b → sign_of (a -ℤ b) ≡ negsuc 0
sign_of-below a b h = below (a -ℤ b) (omega (arith, ints))
  where
    below : (z : ℤ) → z <ℤ pos 0 → sign_of z ≡ negsuc 0
    below (pos zero) h = absurd (omega (arith, ints))
    below (pos (suc n)) h = absurd (omega (arith, ints))
    below (negsuc n) h = refl

pub sign_of-same : (a b : ℤ) → a ≤ℤ b → b ≤ℤ a → sign_of (a -ℤ b) ≡ pos 0
sign_of-same a b h k = same (a -ℤ b) (omega (arith, ints)) (omega (arith, ints))
  where
    same : (z : ℤ) → z ≤ℤ pos 0 → pos 0 ≤ℤ z → sign_of z ≡ pos 0
    same (pos zero) h k = refl
    same (pos (suc n)) h k = absurd (omega (arith, ints))
    same (negsuc n) h k = absurd (omega (arith, ints))

-- The sign of a corner by comparing its two products.
pub sign-above : (a b c : Point) (left right : ℤ) →
    left ≡ (b.x -ℤ a.x) *ℤ (c.y -ℤ a.y) → right ≡ (b.y -ℤ a.y) *ℤ (c.x -ℤ a.x) → right <ℤ left → pos 1 ≡ sign a b c
unfolding sign
sign-above a b c left right e f h = rw (← e, ← f) (sym (sign_of-above left right h))

pub sign-below : (a b c : Point) (left right : ℤ) →
    left ≡ (b.x -ℤ a.x) *ℤ (c.y -ℤ a.y) → right ≡ (b.y -ℤ a.y) *ℤ (c.x -ℤ a.x) → left <ℤ right → negsuc 0 ≡ sign a b c
unfolding sign
sign-below a b c left right e f h = rw (← e, ← f) (sym (sign_of-below left right h))

pub sign-same : (a b c : Point) (left right : ℤ) →
    left ≡ (b.x -ℤ a.x) *ℤ (c.y -ℤ a.y) → right ≡ (b.y -ℤ a.y) *ℤ (c.x -ℤ a.x) → left ≤ℤ right → right ≤ℤ left → pos 0 ≡ sign a b c
unfolding sign
sign-same a b c left right e f h k = rw (← e, ← f) (sym (sign_of-same left right h k))

-- A product of two spans that were passed as words of 64 bits.
pub product-spans : (r s t s' t' : ℤ) → r ≡ to_z w64 (of_z w64 s) *ℤ to_z w64 (of_z w64 t) →
    s ≡ s' → t ≡ t' → unsigned_abs s ≤ 2_000_000_000 → unsigned_abs t ≤ 2_000_000_000 → r ≡ s' *ℤ t'
product-spans r s t s' t' e f g m n =
    let fs : FitsSigned w64 s = fits_signed_from_abs w64 s (omega arith) in
    let ft : FitsSigned w64 t = fits_signed_from_abs w64 t (omega arith) in
    rw (e, to_z-of_z w64 s fs, to_z-of_z w64 t ft, f, g) refl
