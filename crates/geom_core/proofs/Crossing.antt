-- Segments that cross have bounds that meet.
use Rattle.std.proofs.Common.{◌≡◌, zero, suc, ℤ, pos, negsuc, ◌-ℤ◌, ◌*ℤ◌, neg_ℤ, ◌<ℤ◌, true, ◌&&◌, ◌⊎◌, inl, inr, int_lt, ◌∙◌, arith}
use Rattle.std.proofs.lemmas.Int.{ints}
use Rattle.geom_core.specs.Plane.{Point}
use Rattle.geom_core.specs.Segments.{sign_of, sign, are_opposite, do_cross}
use Rattle.geom_core.proofs.Both.{both, either}
use Rattle.geom_core.proofs.Parts.{Parts, itself, minus, times, same_from}

-- What `sign` is the sign of.
abbrev pub det : Point → Point → Point → ℤ
det a b c = (b.x -ℤ a.x) *ℤ (c.y -ℤ a.y) -ℤ (b.y -ℤ a.y) *ℤ (c.x -ℤ a.x)

abbrev pub away : (a b : ℤ) → Parts (b -ℤ a)
away a b = minus b a (itself b) (itself a)

abbrev pub det_parts : (a b c : Point) → Parts (det a b c)
det_parts a b c = minus _ _
    (times (b.x -ℤ a.x) (c.y -ℤ a.y) (away a.x b.x) (away a.y c.y))
    (times (b.y -ℤ a.y) (c.x -ℤ a.x) (away a.y b.y) (away a.x c.x))

-- Turning the first segment round turns the sign round.
pub det-turned : (a b c : Point) → det b a c ≡ neg_ℤ (det a b c)
det-turned a b c =
    let e : det b a c ≡ pos 0 -ℤ det a b c =
    same_from (det b a c) (pos 0 -ℤ det a b c) (det_parts b a c) (minus (pos 0) (det a b c) (itself (pos 0)) (det_parts a b c)) (omega arith) in
    e ∙ omega (arith, ints)

-- The four signs of two segments are tied.
pub det-tied : (a b c d : Point) → det a b c -ℤ det a b d ≡ det c d b -ℤ det c d a
det-tied a b c d = same_from (det a b c -ℤ det a b d) (det c d b -ℤ det c d a)
    (minus _ _ (det_parts a b c) (det_parts a b d)) (minus _ _ (det_parts c d b) (det_parts c d a)) (omega arith)

-- The place where the lines cut, by the first segment and by the second.
pub det-cut : (a b c d : Point) →
    (d.x -ℤ a.x) *ℤ det a b c -ℤ (c.x -ℤ a.x) *ℤ det a b d ≡ (b.x -ℤ a.x) *ℤ (pos 0 -ℤ det c d a)
det-cut a b c d = same_from ((d.x -ℤ a.x) *ℤ det a b c -ℤ (c.x -ℤ a.x) *ℤ det a b d) ((b.x -ℤ a.x) *ℤ (pos 0 -ℤ det c d a))
    (minus _ _ (times _ _ (away a.x d.x) (det_parts a b c)) (times _ _ (away a.x c.x) (det_parts a b d)))
    (times _ _ (away a.x b.x) (minus _ _ (itself (pos 0)) (det_parts c d a)))
    (omega arith)

pub above-times : (a b : ℤ) → pos 0 <ℤ a → pos 0 <ℤ b → pos 0 <ℤ (a *ℤ b)
above-times (pos (suc m)) (pos (suc n)) h k = omega (arith, ints)
above-times (pos zero) b h k = absurd (omega (arith, ints))
above-times (pos (suc m)) (pos zero) h k = absurd (omega (arith, ints))
above-times (pos (suc m)) (negsuc n) h k = absurd (omega (arith, ints))
above-times (negsuc m) b h k = absurd (omega (arith, ints))

pub below-times : (a b : ℤ) → pos 0 <ℤ a → b <ℤ pos 0 → (a *ℤ b) <ℤ pos 0
below-times (pos (suc m)) (negsuc n) h k = omega (arith, ints)
below-times (pos zero) b h k = absurd (omega (arith, ints))
below-times (pos (suc m)) (pos n) h k = absurd (omega (arith, ints))
below-times (negsuc m) b h k = absurd (omega (arith, ints))

-- A product above 0 with a factor above 0 has its other factor above 0.
pub above-factor : (a b : ℤ) → pos 0 <ℤ b → pos 0 <ℤ (a *ℤ b) → pos 0 <ℤ a
above-factor (pos (suc m)) b h k = omega (arith, ints)
above-factor (pos zero) (pos n) h k = absurd (omega (arith, ints))
above-factor (pos zero) (negsuc n) h k = absurd (omega (arith, ints))
above-factor (negsuc m) (pos zero) h k = absurd (omega (arith, ints))
above-factor (negsuc m) (pos (suc n)) h k = absurd (omega (arith, ints))
above-factor (negsuc m) (negsuc n) h k = absurd (omega (arith, ints))

-- If c and d lie to greater x of a, then b does too.
pub leans : (a b c d : Point) → a.x <ℤ c.x → a.x <ℤ d.x →
    pos 0 <ℤ det a b c → det a b d <ℤ pos 0 → det c d a <ℤ pos 0 → a.x <ℤ b.x
leans a b c d ac ad abc abd cda =
    let cut = det-cut a b c d in
    let one : pos 0 <ℤ ((d.x -ℤ a.x) *ℤ det a b c) = above-times (d.x -ℤ a.x) (det a b c) (omega (arith, ints)) abc in
    let two : ((c.x -ℤ a.x) *ℤ det a b d) <ℤ pos 0 = below-times (c.x -ℤ a.x) (det a b d) (omega (arith, ints)) abd in
    let turned : pos 0 <ℤ (pos 0 -ℤ det c d a) = omega (arith, ints) in
    let product : pos 0 <ℤ ((b.x -ℤ a.x) *ℤ (pos 0 -ℤ det c d a)) =
    along ((d.x -ℤ a.x) *ℤ det a b c) ((c.x -ℤ a.x) *ℤ det a b d) (b.x -ℤ a.x) (pos 0 -ℤ det c d a) one two cut in
    let up_to : pos 0 <ℤ (b.x -ℤ a.x) = above-factor (b.x -ℤ a.x) (pos 0 -ℤ det c d a) turned product in
    omega (arith, ints)
  where
    along : (l r m n : ℤ) → pos 0 <ℤ l → r <ℤ pos 0 → l -ℤ r ≡ m *ℤ n → pos 0 <ℤ (m *ℤ n)
    along l r m n h k e = omega (arith, ints)

-- The ends c and d lie to greater x of a and b. Then the segments do not cross with c on the left of the first.
pub uncrossed-left : (a b c d : Point) → a.x <ℤ c.x → a.x <ℤ d.x → b.x <ℤ c.x → b.x <ℤ d.x →
    pos 0 <ℤ det a b c → det a b d <ℤ pos 0 → det c d a <ℤ pos 0 → pos 0 <ℤ det c d b → ⊥
uncrossed-left a b c d ac ad bc bd abc abd cda cdb =
    let one : a.x <ℤ b.x = leans a b c d ac ad abc abd cda in
    let turned_c = det-turned a b c in
    let turned_d = det-turned a b d in
    let turned_b = det-turned c d b in
    let bad : pos 0 <ℤ det b a d = omega (arith, ints) in
    let bac : det b a c <ℤ pos 0 = omega (arith, ints) in
    let dcb : det d c b <ℤ pos 0 = omega (arith, ints) in
    let two : b.x <ℤ a.x = leans b a d c bd bc bad bac dcb in
    omega (arith, ints)

-- How two segments cross: the first has c on its left and d on its right, or the other way round.
pub record CrossLeft (a b c d : Point) : Type 0 where
  pub abc : pos 0 <ℤ det a b c
  pub abd : det a b d <ℤ pos 0
  pub cda : det c d a <ℤ pos 0
  pub cdb : pos 0 <ℤ det c d b

pub CrossLeft-turned : (a b c d : Point) → CrossLeft a b c d → CrossLeft c d b a
CrossLeft-turned a b c d x =
    let turned_c = det-turned a b c in
    let turned_d = det-turned a b d in
    let abc = x.abc in let abd = x.abd in
    record { abc = x.cdb; abd = x.cda; cda = omega (arith, ints); cdb = omega (arith, ints) }

-- So no side of the one's bounds parts them from the other's.
pub not_before : (a b c d : Point) → CrossLeft a b c d → a.x <ℤ c.x → a.x <ℤ d.x → b.x <ℤ c.x → b.x <ℤ d.x → ⊥
not_before a b c d x ac ad bc bd = uncrossed-left a b c d ac ad bc bd x.abc x.abd x.cda x.cdb

pub not_after : (a b c d : Point) → CrossLeft a b c d → c.x <ℤ a.x → c.x <ℤ b.x → d.x <ℤ a.x → d.x <ℤ b.x → ⊥
not_after a b c d x ca cb da db = not_before c d b a (CrossLeft-turned a b c d x) cb ca db da

-- The plane with its axes exchanged, where left is right.
abbrev pub exchanged : Point → Point
exchanged p = record { x = p.y; y = p.x }

pub det-exchanged : (a b c : Point) → det (exchanged a) (exchanged b) (exchanged c) ≡ neg_ℤ (det a b c)
det-exchanged a b c = omega (arith, ints)

pub CrossLeft-exchanged : (a b c d : Point) → CrossLeft a b c d → CrossLeft (exchanged a) (exchanged b) (exchanged d) (exchanged c)
CrossLeft-exchanged a b c d x =
    let e = det-exchanged a b c in let f = det-exchanged a b d in
    let g = det-exchanged d c a in let h = det-exchanged d c b in
    let i = det-turned c d a in let j = det-turned c d b in
    let abc = x.abc in let abd = x.abd in let cda = x.cda in let cdb = x.cdb in
    record { abc = omega (arith, ints); abd = omega (arith, ints); cda = omega (arith, ints); cdb = omega (arith, ints) }

-- From the tests of signs to the numbers.
sign_above : (z : ℤ) → int_lt (pos 0) (sign_of z) ≡ true → pos 0 <ℤ z
sign_above (pos zero) h = cc
sign_above (pos (suc n)) h = omega (arith, ints)
sign_above (negsuc n) h = cc

sign_below : (z : ℤ) → int_lt (sign_of z) (pos 0) ≡ true → z <ℤ pos 0
sign_below (pos zero) h = cc
sign_below (pos (suc n)) h = cc
sign_below (negsuc n) h = omega (arith, ints)

pub opposite-is : (y z : ℤ) → are_opposite (sign_of y) (sign_of z) ≡ true →
    ((y <ℤ pos 0) × (pos 0 <ℤ z)) ⊎ ((pos 0 <ℤ y) × (z <ℤ pos 0))
unfolding are_opposite
opposite-is y z h =
    elim (either (int_lt (sign_of y) (pos 0) && int_lt (pos 0) (sign_of z)) (int_lt (pos 0) (sign_of y) && int_lt (sign_of z) (pos 0)) h) [
      | inl k ↦ let e = both (int_lt (sign_of y) (pos 0)) (int_lt (pos 0) (sign_of z)) k in inl (sign_below y e.0, sign_above z e.1)
      | inr k ↦ let e = both (int_lt (pos 0) (sign_of y)) (int_lt (sign_of z) (pos 0)) k in inr (sign_above y e.0, sign_below z e.1)
    ]

pub cross-is : (a b c d : Point) → do_cross (record { from = a; to = b }) (record { from = c; to = d }) ≡ true →
    CrossLeft a b c d ⊎ CrossLeft a b d c
unfolding do_cross sign
cross-is a b c d h =
    let e = both (are_opposite (sign a b c) (sign a b d)) (are_opposite (sign c d a) (sign c d b)) h in
    let tied = det-tied a b c d in
    let turned_a = det-turned c d a in
    let turned_b = det-turned c d b in
    elim (opposite-is (det a b c) (det a b d) e.0) [
      | inl k ↦ elim (opposite-is (det c d a) (det c d b) e.1) [
        | inl l ↦ absurd (clash (det a b c) (det a b d) (det c d b) (det c d a) k.0 k.1 l.1 l.0 tied)
        | inr l ↦ inr (record { abc = k.1; abd = k.0; cda = let x = l.0 in omega (arith, ints); cdb = let x = l.1 in omega (arith, ints) })
      ]
      | inr k ↦ elim (opposite-is (det c d a) (det c d b) e.1) [
        | inl l ↦ inl (record { abc = k.0; abd = k.1; cda = l.0; cdb = l.1 })
        | inr l ↦ absurd (clash (det a b d) (det a b c) (det c d a) (det c d b) k.1 k.0 l.0 l.1 (flipped (det a b c) (det a b d) (det c d b) (det c d a) tied))
      ]
    ]
  where
    clash : (m n p q : ℤ) → m <ℤ pos 0 → pos 0 <ℤ n → pos 0 <ℤ p → q <ℤ pos 0 → m -ℤ n ≡ p -ℤ q → ⊥
    clash m n p q h i j k e = omega (arith, ints)

    flipped : (m n p q : ℤ) → m -ℤ n ≡ p -ℤ q → n -ℤ m ≡ q -ℤ p
    flipped m n p q e = omega (arith, ints)
