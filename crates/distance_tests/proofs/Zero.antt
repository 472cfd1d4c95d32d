-- Within distance 0 lies just what intersects: an end that is so near a segment lies on it.
use Rattle.std.proofs.Common.{◌≡◌, ℕ, ◌+◌, ◌-◌, ◌*◌, ◌<◌, ◌≤◌, ℤ, pos, negsuc, ◌-ℤ◌, ◌*ℤ◌, ◌≤ℤ◌, unsigned_abs, Bool, true, false, ◌&&◌, ◌||◌, int_le, int_lt, List, ◌⊎◌, inl, inr, ⊎_elim, refl, sym, ap, subst, ◌∙◌, arith}
use Rattle.std.specs.Prelude.{zero, suc}
use Rattle.std.proofs.lemmas.Int.{ints, clamps}
use Rattle.std.proofs.lemmas.Nat.{mul-le}
use Rattle.std.proofs.lemmas.Bool.{cases_lt}
use Rattle.std.specs.Int.{int_min, int_max}
use Rattle.geom_core.specs.Plane.{Point}
use Rattle.geom_core.specs.Segments.{Segment, sign, is_between, is_beside, is_on, do_touch, do_meet}
use Rattle.geom_core.specs.declared.geometry.Geometry.{Geometry}
use Rattle.geom_core.proofs.Both.{both, either, or_left}
use Rattle.geom_core.proofs.Crossing.{det, det_parts}
use Rattle.geom_core.proofs.Parts.{itself, minus, times, same_from}
use Rattle.spatial_tests.specs.Sharing.{segments_of, meets_some, do_any_meet, do_intersect}
use Rattle.distance_tests.specs.Within.{way, dot, cross, are_close, is_before, is_behind, is_abreast, is_line_close, is_near, are_near, near_some, are_any_near, is_within_distance}
use Rattle.distance_tests.proofs.Feet.{foot_x, foot_y, up_is, square_is, dot_self, le_test, lt_test}
use Rattle.distance_tests.proofs.Distances.{or-more, any-more}

le_true : (a b : ℤ) → a ≤ℤ b → int_le a b ≡ true
le_true a b h = grind (arith, ints)

between : (z a b : ℤ) → int_min a b ≤ℤ z → z ≤ℤ int_max a b → is_between z a b ≡ true
unfolding is_between
between z a b h k = rw (le_true (int_min a b) z h, le_true z (int_max a b) k) refl

-- A point within the bounds of a segment and on its line.
on_line : (p : Point) (s : Segment) → is_between p.x s.from.x s.to.x ≡ true → is_between p.y s.from.y s.to.y ≡ true → det s.from s.to p ≡ pos 0 → is_on p s ≡ true
unfolding is_on is_beside sign
on_line p s h k e = rw (h, k, e) refl

on_first : (s : Segment) → is_on s.from s ≡ true
on_first s = on_line s.from s (between s.from.x s.from.x s.to.x (omega (arith, ints, clamps)) (omega (arith, ints, clamps))) (between s.from.y s.from.y s.to.y (omega (arith, ints, clamps)) (omega (arith, ints, clamps)))
    (same_from _ _ (det_parts s.from s.to s.from) (itself (pos 0)) (omega arith))

on_last : (s : Segment) → is_on s.to s ≡ true
on_last s = on_line s.to s (between s.to.x s.from.x s.to.x (omega (arith, ints, clamps)) (omega (arith, ints, clamps))) (between s.to.y s.from.y s.to.y (omega (arith, ints, clamps)) (omega (arith, ints, clamps)))
    (same_from _ _ (det_parts s.from s.to s.to) (itself (pos 0)) (omega arith))

no_square : (n m : ℕ) → n * n + m ≤ 0 → n ≡ 0
no_square zero m h = refl
no_square (suc n) m h = absurd (omega arith)

abs_none : (z : ℤ) → unsigned_abs z ≡ 0 → z ≡ pos 0
abs_none z h = omega (arith, ints)

-- A point within distance 0 of another is that point.
close_same : (p q : Point) → are_close 0 p q ≡ true → q ≡ p
unfolding are_close
close_same p q e =
    let x : ℕ = unsigned_abs (q.x -ℤ p.x) in
    let y : ℕ = unsigned_abs (q.y -ℤ p.y) in
    let none : x * x + y * y ≤ 0 * 0 = le_test (x * x + y * y) (0 * 0) (sym (ap (λ (z : ℤ). int_le z (pos (0 * 0))) (dot_self (way p q))) ∙ e) in
    let by_x : q.x ≡ p.x = same q.x p.x (no_square x (y * y) (omega arith)) in
    let by_y : q.y ≡ p.y = same q.y p.y (no_square y (x * x) (omega arith)) in
    λ i. record { x = by_x i; y = by_y i }
  where
    same : (a b : ℤ) → unsigned_abs (a -ℤ b) ≡ 0 → a ≡ b
    same a b h = omega (arith, ints)

less_than : (a b m n : ℕ) → 0 < m → a * (m + n) ≡ m * b → a ≤ b
less_than a b m n some e = ⊎_elim
    (λ (h : b < a). let more : (b + 1) * (m + n) ≤ a * (m + n) = mul-le (b + 1) (m + n) a (m + n) (omega arith) (omega arith) in absurd (omega arith))
    (λ (h : a ≤ b). h)
    (cases_lt b a)

-- A number that is to another as m to m + n.
in_part : (v w : ℤ) (m n : ℕ) → 0 < m → v *ℤ pos (m + n) ≡ pos m *ℤ w → ((pos 0 ≤ℤ v) × (v ≤ℤ w)) ⊎ ((w ≤ℤ v) × (v ≤ℤ pos 0))
in_part (pos a) (pos b) m n some e = let less : a ≤ b = less_than a b m n some (omega (arith, ints)) in inl (omega (arith, ints), omega (arith, ints))
in_part (negsuc a) (negsuc b) m n some e = let less : suc a ≤ suc b = less_than (suc a) (suc b) m n some (omega (arith, ints)) in inr (omega (arith, ints), omega (arith, ints))
in_part (pos a) (negsuc b) m n some e = absurd (omega (arith, ints))
in_part (negsuc a) (pos b) m n some e = absurd (omega (arith, ints))

part_between : (p f t : ℤ) (m n : ℕ) → 0 < m → (p -ℤ f) *ℤ pos (m + n) ≡ pos m *ℤ (t -ℤ f) → is_between p f t ≡ true
part_between p f t m n some e = elim (in_part (p -ℤ f) (t -ℤ f) m n some e) [
  | inl h ↦ let a = h.0 in let b = h.1 in between p f t (omega (arith, ints, clamps)) (omega (arith, ints, clamps))
  | inr h ↦ let a = h.0 in let b = h.1 in between p f t (omega (arith, ints, clamps)) (omega (arith, ints, clamps))
]

same_by : (a b c k : ℤ) → k ≡ pos 0 → a -ℤ b ≡ c *ℤ k → a ≡ b
same_by a b c k none e = same a b (e ∙ ap (λ (i : ℤ). c *ℤ i) none ∙ nothing c)
  where
    nothing : (c : ℤ) → c *ℤ pos 0 ≡ pos 0
    nothing (pos n) = omega (arith, ints)
    nothing (negsuc n) = omega (arith, ints)

    same : (a b : ℤ) → a -ℤ b ≡ pos 0 → a ≡ b
    same a b h = omega (arith, ints)

turned : (x y u z : ℤ) → x *ℤ z -ℤ y *ℤ u ≡ pos 0 → u *ℤ y -ℤ z *ℤ x ≡ pos 0
turned x y u z e =
    let back : u *ℤ y -ℤ z *ℤ x ≡ pos 0 -ℤ (x *ℤ z -ℤ y *ℤ u) = same_from _ _
    (minus _ _ (times u y (itself u) (itself y)) (times z x (itself z) (itself x)))
    (minus _ _ (itself (pos 0)) (minus _ _ (times x z (itself x) (itself z)) (times y u (itself y) (itself u))))
    (omega arith) in
    back ∙ ap (λ (i : ℤ). pos 0 -ℤ i) e

-- A point whose perpendicular has no length, and falls between the ends of a segment.
line_on : (p : Point) (s : Segment) → is_abreast p s ≡ true → is_line_close 0 p s ≡ true → is_on p s ≡ true
unfolding is_abreast is_line_close
line_on p s e f =
    let v : Point = way s.from p in
    let w : Point = way s.from s.to in
    let l : ℕ = unsigned_abs w.x * unsigned_abs w.x + unsigned_abs w.y * unsigned_abs w.y in
    let m : ℕ = unsigned_abs (dot v w) in
    let c : ℕ = unsigned_abs (cross v w) in
    let ends = both (int_lt (pos 0) (dot v w)) (int_lt (dot v w) (dot w w)) e in
    let along : pos m ≡ dot v w = up_is (dot v w) ends.0 in
    let whole : dot w w ≡ pos l = dot_self w in
    let some : 0 < m = lt_test 0 m (ap (λ (z : ℤ). int_lt (pos 0) z) along ∙ ends.0) in
    let less : m < l = lt_test m l (ap (λ (z : ℤ). int_lt z (pos l)) along ∙ ap (λ (z : ℤ). int_lt (dot v w) z) (sym whole) ∙ ends.1) in
    let n : ℕ = l - m in
    let square : pos (m + n) ≡ dot w w = ap (λ (i : ℕ). pos i) (omega arith) ∙ sym whole in
    let small : c * c ≤ 0 * 0 * l = le_test (c * c) (0 * 0 * l)
    (ap (λ (z : ℤ). int_le z (pos (0 * 0 * l))) (sym (square_is (cross v w))) ∙ ap (λ (z : ℤ). int_le (cross v w *ℤ cross v w) (pos (0 * 0) *ℤ z)) (sym whole) ∙ f) in
    let flat : cross v w ≡ pos 0 = abs_none (cross v w) (no_square c 0 (omega arith)) in
    let by_x : v.x *ℤ pos (m + n) ≡ pos m *ℤ w.x =
    ap (λ (i : ℤ). v.x *ℤ i) square ∙ same_by (v.x *ℤ dot w w) (dot v w *ℤ w.x) w.y (cross v w) flat (foot_x v w) ∙ ap (λ (i : ℤ). i *ℤ w.x) (sym along) in
    let by_y : v.y *ℤ pos (m + n) ≡ pos m *ℤ w.y =
    ap (λ (i : ℤ). v.y *ℤ i) square ∙ sym (same_by (dot v w *ℤ w.y) (v.y *ℤ dot w w) w.x (cross v w) flat (foot_y v w)) ∙ ap (λ (i : ℤ). i *ℤ w.y) (sym along) in
    on_line p s (part_between p.x s.from.x s.to.x m n some by_x) (part_between p.y s.from.y s.to.y m n some by_y) (turned v.x v.y w.x w.y flat)

near_on : (p : Point) (s : Segment) → is_near 0 p s ≡ true → is_on p s ≡ true
unfolding is_near
near_on p s e = elim (either (is_before p s && are_close 0 p s.from) ((is_behind p s && are_close 0 p s.to) || (is_abreast p s && is_line_close 0 p s)) e) [
  | inl i ↦ subst (λ (q : Point). is_on q s ≡ true) (close_same p s.from (both (is_before p s) (are_close 0 p s.from) i).1) (on_first s)
  | inr i ↦ elim (either (is_behind p s && are_close 0 p s.to) (is_abreast p s && is_line_close 0 p s) i) [
    | inl j ↦ subst (λ (q : Point). is_on q s ≡ true) (close_same p s.to (both (is_behind p s) (are_close 0 p s.to) j).1) (on_last s)
    | inr j ↦ let h = both (is_abreast p s) (is_line_close 0 p s) j in line_on p s h.0 h.1
  ]
]

near_meets : (s t : Segment) → are_near 0 s t ≡ true → do_meet s t ≡ true
unfolding are_near do_meet do_touch
near_meets s t e = or_left _ _
    (or-more (is_near 0 s.from t || is_near 0 s.to t) (is_near 0 t.from s || is_near 0 t.to s) (is_on s.from t || is_on s.to t) (is_on t.from s || is_on t.to s)
    (or-more (is_near 0 s.from t) (is_near 0 s.to t) (is_on s.from t) (is_on s.to t) (near_on s.from t) (near_on s.to t))
    (or-more (is_near 0 t.from s) (is_near 0 t.to s) (is_on t.from s) (is_on t.to s) (near_on t.from s) (near_on t.to s))
    e)

any_meets : (ss ts : List Segment) → are_any_near 0 ss ts ≡ true → do_any_meet ss ts ≡ true
any_meets ss ts = any-more (λ s. near_some 0 s ts) (λ s. meets_some s ts) (λ s. any-more (are_near 0 s) (do_meet s) (near_meets s) ts) ss

or_same : (x y : Bool) → (y ≡ true → x ≡ true) → (x || y) ≡ x
or_same true y f = refl
or_same false true f = sym (f refl)
or_same false false f = refl

meets_intersects : (a b : Geometry) → do_any_meet (segments_of a) (segments_of b) ≡ true → do_intersect a b ≡ true
unfolding do_intersect
meets_intersects a b e = or_left _ _ e

pub at_zero : (a b : Geometry) → is_within_distance a b 0 ≡ do_intersect a b
unfolding is_within_distance
at_zero a b = or_same (do_intersect a b) (are_any_near 0 (segments_of a) (segments_of b)) (λ e. meets_intersects a b (any_meets (segments_of a) (segments_of b) e))
