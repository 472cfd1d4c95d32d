-- Geometries whose bounds lie farther apart than a distance do not lie within it.
use Rattle.std.proofs.Common.{◌≡◌, ℕ, ◌+◌, ◌-◌, ◌*◌, ◌<◌, ◌≤◌, ℤ, pos, ◌+ℤ◌, ◌-ℤ◌, ◌*ℤ◌, ◌≤ℤ◌, ◌<ℤ◌, unsigned_abs, true, false, ◌&&◌, ◌||◌, int_le, int_lt, List, [], ◌∷◌, ◌⊎◌, inl, inr, ⊎_elim, refl, sym, ap, subst, ◌∙◌, arith, to_z, of_z, w32, w64, nat_lt}
use Rattle.std.proofs.lemmas.Int.{ints, clamps, unsigned_abs-mul, to_z-of_z, fits_signed_from_abs}
use Rattle.std.proofs.lemmas.Nat.{mul-le, mul-lt}
use Rattle.std.proofs.lemmas.Bool.{ltb-true, lt-ltb, cases_Bool}
use Rattle.std.proofs.Math.Nat.{le_of_mul-le-mul_left}
use Rattle.std.proofs.lemmas.List.Elements.{recursion_from_All}
use Rattle.std.specs.Prelude.{zero, suc}
use Rattle.std.specs.Int.{int_min, int_max}
use Rattle.std.specs.List.{AllByRecursion}
use Rattle.geom_core.specs.Plane.{Point, Bounds, IsCoordinate, IsInBox, are_apart}
use Rattle.geom_core.specs.Segments.{Segment}
use Rattle.geom_core.specs.Extents.{IsLeastBox, positions_of, is_covered}
use Rattle.geom_core.specs.declared.geometry.Geometry.{Geometry}
use Rattle.geom_core.proofs.Both.{both, either, not_true}
use Rattle.geom_core.proofs.Parts.{itself, minus, times, same_from}
use Rattle.geom_core.proofs.Meeting.{box_of_segment, IsInBox-from, IsInBox-to, way_back, after_x, after_y, before_x, before_y}
use Rattle.spatial_tests.specs.Sharing.{segments_of}
use Rattle.spatial_tests.proofs.Apart.{IsSpanned, segments-in, apart-no_share}
use Rattle.distance_tests.specs.Within.{way, dot, cross, are_close, is_before, is_behind, is_abreast, is_line_close, is_near, are_near, near_some, are_any_near, is_within_distance}
use Rattle.distance_tests.specs.declared.gaps.Reach.{Reach}
use Rattle.distance_tests.specs.Gaps.{gap, gap_x, gap_y, are_farther, reach_of, is_beyond}
use Rattle.distance_tests.proofs.Feet.{foot_x, foot_y, up_is, square_is, dot_self, le_test, lt_test}
use Rattle.distance_tests.proofs.Products.{passed}

-- What the code computes.
pub gap_is : (g : ℕ) (after before y z : ℤ) → g ≡ gap (to_z w64 (of_z w64 after)) (to_z w64 (of_z w64 before)) → after ≡ y → before ≡ z →
    unsigned_abs after ≤ 2_000_000_000 → unsigned_abs before ≤ 2_000_000_000 → g ≡ gap y z
gap_is g after before y z e f h i j = rw (e, passed after (omega arith), passed before (omega arith), f, h) refl

short : (z : ℤ) → IsCoordinate z → to_z w32 (of_z w32 z) ≡ z
short z h = let a = h.from in let b = h.to in to_z-of_z w32 z (fits_signed_from_abs w32 z (omega (arith, ints)))

pub lowest_is : (r y z : ℤ) (d : ℕ) → IsCoordinate y → IsCoordinate z → r ≡ int_min (to_z w32 (of_z w32 y)) (to_z w32 (of_z w32 z)) -ℤ pos d → r ≡ int_min y z -ℤ pos d
lowest_is r y z d h k e = rw (short y h, short z k) at e

pub highest_is : (r y z : ℤ) (d : ℕ) → IsCoordinate y → IsCoordinate z → r ≡ int_max (to_z w32 (of_z w32 y)) (to_z w32 (of_z w32 z)) +ℤ pos d → r ≡ int_max y z +ℤ pos d
highest_is r y z d h k e = rw (short y h, short z k) at e

pub reach_is : (d : ℕ) (s : Segment) (west east south north : ℤ) → unsigned_abs west ≤ 8_000_000_000 → unsigned_abs east ≤ 8_000_000_000 → unsigned_abs south ≤ 8_000_000_000 → unsigned_abs north ≤ 8_000_000_000 →
    west ≡ (reach_of d s).west → east ≡ (reach_of d s).east → south ≡ (reach_of d s).south → north ≡ (reach_of d s).north →
    record { west = to_z w64 (of_z w64 west); east = to_z w64 (of_z w64 east); south = to_z w64 (of_z w64 south); north = to_z w64 (of_z w64 north) } ≡ reach_of d s
reach_is d s west east south north h i j k e f g l =
    let w = passed west (omega arith) ∙ e in
    let x = passed east (omega arith) ∙ f in
    let y = passed south (omega arith) ∙ g in
    let z = passed north (omega arith) ∙ l in
    λ i. record { west = w i; east = x i; south = y i; north = z i }

pub farther_is : (d sx sy gx gy : ℕ) (a b : Bounds) → sx ≡ gx * gx → sy ≡ gy * gy → gx ≡ gap_x a b → gy ≡ gap_y a b → nat_lt (d * d) (sx + sy) ≡ are_farther d a b
unfolding are_farther
farther_is d sx sy gx gy a b e f g h = rw (e, f, g, h) refl

-- A number and two others: these lie at least so far beyond it on one side.
data Side (g : ℕ) (p f t : ℤ) : Type 0 where
  after : (p +ℤ pos g) ≤ℤ f → (p +ℤ pos g) ≤ℤ t → Side g p f t
  before : (f +ℤ pos g) ≤ℤ p → (t +ℤ pos g) ≤ℤ p → Side g p f t
  level : g ≡ 0 → Side g p f t

max_one : (y z : ℤ) → (int_max y z ≡ y) ⊎ (int_max y z ≡ z)
max_one y z = ⊎_elim (λ (h : int_lt z y ≡ true). inl (rw h refl)) (λ (h : int_lt z y ≡ false). inr (rw h refl)) (cases_Bool (int_lt z y))

above_none : (z : ℤ) → (pos (unsigned_abs (int_max z (pos 0))) ≡ z) ⊎ (unsigned_abs (int_max z (pos 0)) ≡ 0)
above_none z = ⊎_elim (λ (h : int_lt (pos 0) z ≡ true). inl (rw h (up_is z h))) (λ (h : int_lt (pos 0) z ≡ false). inr (rw h refl)) (cases_Bool (int_lt (pos 0) z))

gap_cases : (y z : ℤ) → (pos (gap y z) ≡ y) ⊎ ((pos (gap y z) ≡ z) ⊎ (gap y z ≡ 0))
gap_cases y z = ⊎_elim
    (λ (k : pos (gap y z) ≡ int_max y z). ⊎_elim (λ (e : int_max y z ≡ y). inl (k ∙ e)) (λ (e : int_max y z ≡ z). inr (inl (k ∙ e))) (max_one y z))
    (λ (k : gap y z ≡ 0). inr (inr k))
    (above_none (int_max y z))

-- A number of one span, and two of another that lies so far away.
side_of : (low high from to p f t : ℤ) → low ≤ℤ p → p ≤ℤ high → from ≤ℤ f → f ≤ℤ to → from ≤ℤ t → t ≤ℤ to → Side (gap (from -ℤ high) (low -ℤ to)) p f t
side_of low high from to p f t a b c d e h = ⊎_elim
    (λ (k : pos (gap (from -ℤ high) (low -ℤ to)) ≡ from -ℤ high). after (omega (arith, ints)) (omega (arith, ints)))
    (⊎_elim
    (λ (k : pos (gap (from -ℤ high) (low -ℤ to)) ≡ low -ℤ to). before (omega (arith, ints)) (omega (arith, ints)))
    (λ (k : gap (from -ℤ high) (low -ℤ to) ≡ 0). level k))
    (gap_cases (from -ℤ high) (low -ℤ to))

-- So far away is each of them.
far_of : (g : ℕ) (p f t : ℤ) → Side g p f t → (g ≤ unsigned_abs (f -ℤ p)) × (g ≤ unsigned_abs (t -ℤ p))
far_of g p f t (after a b) = (omega (arith, ints), omega (arith, ints))
far_of g p f t (before a b) = (omega (arith, ints), omega (arith, ints))
far_of g p f t (level e) = (omega arith, omega arith)

-- A point that is close to another.
close_far : (d gx gy : ℕ) (p q : Point) → gx ≤ unsigned_abs (q.x -ℤ p.x) → gy ≤ unsigned_abs (q.y -ℤ p.y) → are_close d p q ≡ true → gx * gx + gy * gy ≤ d * d
unfolding are_close
close_far d gx gy p q h k e =
    let x : ℕ = unsigned_abs (q.x -ℤ p.x) in
    let y : ℕ = unsigned_abs (q.y -ℤ p.y) in
    let within : x * x + y * y ≤ d * d = le_test (x * x + y * y) (d * d) (sym (ap (λ (z : ℤ). int_le z (pos (d * d))) (dot_self (way p q))) ∙ e) in
    let a = mul-le gx gx x x h h in
    let b = mul-le gy gy y y k k in
    omega arith

mixed : (t s y z g : ℕ) → g ≤ y → g ≤ z → (t + s) * g ≤ t * y + s * z
mixed t s y z g h k =
    let a = mul-le t g t y (omega arith) h in
    let b = mul-le s g s z (omega arith) k in
    omega arith

abs_turned : (a b : ℤ) → unsigned_abs (a -ℤ b) ≡ unsigned_abs (b -ℤ a)
abs_turned a b = omega (arith, ints)

-- The foot lies as far away as both ends of the segment, since it lies between them.
foot_far : (g : ℕ) (p f t : ℤ) (m n : ℕ) → Side g p f t → (m + n) * g ≤ unsigned_abs ((p -ℤ f) *ℤ pos (m + n) -ℤ pos m *ℤ (t -ℤ f))
foot_far g p f t m n (level e) = let none : (m + n) * g ≡ 0 = rw e (omega arith) in omega arith
foot_far g p f t m n (after a b) =
    let y : ℕ = unsigned_abs (t -ℤ p) in
    let z : ℕ = unsigned_abs (f -ℤ p) in
    let e : pos m *ℤ (t -ℤ f) -ℤ (p -ℤ f) *ℤ pos (m + n) ≡ pos (m * y + n * z) = same_from _ _
    (minus _ _ (times _ _ (itself (pos m)) (record { p = y; q = z; is = omega (arith, ints) })) (times _ _ (record { p = 0; q = z; is = omega (arith, ints) }) (itself (pos (m + n)))))
    (itself (pos (m * y + n * z)))
    (omega arith) in
    let long : (m + n) * g ≤ m * y + n * z = mixed m n y z g (omega (arith, ints)) (omega (arith, ints)) in
    let is : unsigned_abs ((p -ℤ f) *ℤ pos (m + n) -ℤ pos m *ℤ (t -ℤ f)) ≡ m * y + n * z = abs_turned ((p -ℤ f) *ℤ pos (m + n)) (pos m *ℤ (t -ℤ f)) ∙ ap unsigned_abs e in
    omega arith
foot_far g p f t m n (before a b) =
    let y : ℕ = unsigned_abs (p -ℤ t) in
    let z : ℕ = unsigned_abs (p -ℤ f) in
    let e : (p -ℤ f) *ℤ pos (m + n) -ℤ pos m *ℤ (t -ℤ f) ≡ pos (m * y + n * z) = same_from _ _
    (minus _ _ (times _ _ (record { p = z; q = 0; is = omega (arith, ints) }) (itself (pos (m + n)))) (times _ _ (itself (pos m)) (record { p = z; q = y; is = omega (arith, ints) })))
    (itself (pos (m * y + n * z)))
    (omega arith) in
    let long : (m + n) * g ≤ m * y + n * z = mixed m n y z g (omega (arith, ints)) (omega (arith, ints)) in
    let is : unsigned_abs ((p -ℤ f) *ℤ pos (m + n) -ℤ pos m *ℤ (t -ℤ f)) ≡ m * y + n * z = ap unsigned_abs e in
    omega arith

-- The squares of the gaps, from the lengths of the sides, of the cross product and of the segment.
squares_far : (l x y c d gx gy : ℕ) → 0 < l → l ≡ x * x + y * y → c * c ≤ d * l → l * gx ≤ y * c → l * gy ≤ x * c → gx * gx + gy * gy ≤ d
squares_far l x y c d gx gy some e h i j =
    let a : (l * gx) * (l * gx) ≤ (y * c) * (y * c) = mul-le (l * gx) (l * gx) (y * c) (y * c) i i in
    let b : (l * gy) * (l * gy) ≤ (x * c) * (x * c) = mul-le (l * gy) (l * gy) (x * c) (x * c) j j in
    let f : l * (c * c) ≤ l * (d * l) = mul-le l (c * c) l (d * l) (omega arith) h in
    let g : l * (c * c) ≡ (x * x + y * y) * (c * c) = ap (λ (n : ℕ). n * (c * c)) e in
    let whole : (l * l) * (gx * gx + gy * gy) ≤ (l * l) * d = omega arith in
    let above : 0 < l * l = mul-lt 0 0 l l some some in
    le_of_mul-le-mul_left whole above

-- A point whose perpendicular falls between the ends of a segment.
line_far : (d gx gy : ℕ) (p : Point) (s : Segment) → Side gx p.x s.from.x s.to.x → Side gy p.y s.from.y s.to.y → is_abreast p s ≡ true → is_line_close d p s ≡ true → gx * gx + gy * gy ≤ d * d
unfolding is_abreast is_line_close
line_far d gx gy p s h k e f =
    let v : Point = way s.from p in
    let w : Point = way s.from s.to in
    let x : ℕ = unsigned_abs w.x in
    let y : ℕ = unsigned_abs w.y in
    let l : ℕ = x * x + y * y in
    let m : ℕ = unsigned_abs (dot v w) in
    let c : ℕ = unsigned_abs (cross v w) in
    let ends = both (int_lt (pos 0) (dot v w)) (int_lt (dot v w) (dot w w)) e in
    let along : pos m ≡ dot v w = up_is (dot v w) ends.0 in
    let whole : dot w w ≡ pos l = dot_self w in
    let less : m < l = lt_test m l (ap (λ (z : ℤ). int_lt z (pos l)) along ∙ ap (λ (z : ℤ). int_lt (dot v w) z) (sym whole) ∙ ends.1) in
    let n : ℕ = l - m in
    let sum : m + n ≡ l = omega arith in
    let square : pos (m + n) ≡ dot w w = ap (λ (i : ℕ). pos i) sum ∙ sym whole in
    let by_x : l * gx ≤ y * c = reach l m n gx y c (v.x *ℤ pos (m + n) -ℤ pos m *ℤ w.x) w.y (cross v w) sum
    (ap (λ (i : ℤ). v.x *ℤ i -ℤ pos m *ℤ w.x) square ∙ ap (λ (i : ℤ). v.x *ℤ dot w w -ℤ i *ℤ w.x) along ∙ foot_x v w)
    (foot_far gx p.x s.from.x s.to.x m n h) in
    let by_y : l * gy ≤ x * c = reach l m n gy x c (pos m *ℤ w.y -ℤ v.y *ℤ pos (m + n)) w.x (cross v w) sum
    (ap (λ (i : ℤ). pos m *ℤ w.y -ℤ v.y *ℤ i) square ∙ ap (λ (i : ℤ). i *ℤ w.y -ℤ v.y *ℤ dot w w) along ∙ foot_y v w)
    (turned ((m + n) * gy) _ _ (foot_far gy p.y s.from.y s.to.y m n k) (abs_turned (v.y *ℤ pos (m + n)) (pos m *ℤ w.y))) in
    let near : c * c ≤ d * d * l = le_test (c * c) (d * d * l)
    (ap (λ (z : ℤ). int_le z (pos (d * d * l))) (sym (square_is (cross v w))) ∙ ap (λ (z : ℤ). int_le (cross v w *ℤ cross v w) (pos (d * d) *ℤ z)) (sym whole) ∙ f) in
    squares_far l x y c (d * d) gx gy (omega arith) refl near by_x by_y
  where
    reach : (l m n g y c : ℕ) (z w k : ℤ) → m + n ≡ l → z ≡ w *ℤ k → (m + n) * g ≤ unsigned_abs z → l * g ≤ unsigned_abs w * unsigned_abs k
    reach l m n g y c z w k e f h = rw (e) at (subst (λ (i : ℕ). (m + n) * g ≤ i) (ap unsigned_abs f ∙ unsigned_abs-mul w k) h)

    turned : (a b c : ℕ) → a ≤ b → b ≡ c → a ≤ c
    turned a b c h e = subst (λ (i : ℕ). a ≤ i) e h

-- A point near a segment.
near_far : (d gx gy : ℕ) (p : Point) (s : Segment) → Side gx p.x s.from.x s.to.x → Side gy p.y s.from.y s.to.y → is_near d p s ≡ true → gx * gx + gy * gy ≤ d * d
unfolding is_near
near_far d gx gy p s h k e =
    let x = far_of gx p.x s.from.x s.to.x h in
    let y = far_of gy p.y s.from.y s.to.y k in
    elim (either (is_before p s && are_close d p s.from) ((is_behind p s && are_close d p s.to) || (is_abreast p s && is_line_close d p s)) e) [
      | inl i ↦ close_far d gx gy p s.from x.0 y.0 (both (is_before p s) (are_close d p s.from) i).1
      | inr i ↦ elim (either (is_behind p s && are_close d p s.to) (is_abreast p s && is_line_close d p s) i) [
        | inl j ↦ close_far d gx gy p s.to x.1 y.1 (both (is_behind p s) (are_close d p s.to) j).1
        | inr j ↦ let both_hold = both (is_abreast p s) (is_line_close d p s) j in line_far d gx gy p s h k both_hold.0 both_hold.1
      ]
    ]

-- The sides of a point of one box and a segment of another.
side_x : (a b : Bounds) (p : Point) (s : Segment) → IsInBox p a → IsSpanned b s → Side (gap_x a b) p.x s.from.x s.to.x
side_x a b p s i j = side_of a.low.x a.high.x b.low.x b.high.x p.x s.from.x s.to.x i.from_x i.to_x j.from.from_x j.from.to_x j.to.from_x j.to.to_x

side_y : (a b : Bounds) (p : Point) (s : Segment) → IsInBox p a → IsSpanned b s → Side (gap_y a b) p.y s.from.y s.to.y
side_y a b p s i j = side_of a.low.y a.high.y b.low.y b.high.y p.y s.from.y s.to.y i.from_y i.to_y j.from.from_y j.from.to_y j.to.from_y j.to.to_y

max_turned : (y z : ℤ) → int_max y z ≡ int_max z y
max_turned y z = omega (arith, ints, clamps)

gap_turned : (y z : ℤ) → gap y z ≡ gap z y
gap_turned y z = ap (λ (m : ℤ). unsigned_abs (int_max m (pos 0))) (max_turned y z)

end_far : (d : ℕ) (a b : Bounds) (p : Point) (s : Segment) → IsInBox p a → IsSpanned b s → is_near d p s ≡ true → gap_x a b * gap_x a b + gap_y a b * gap_y a b ≤ d * d
end_far d a b p s i j e = near_far d (gap_x a b) (gap_y a b) p s (side_x a b p s i j) (side_y a b p s i j) e

end_back : (d : ℕ) (a b : Bounds) (p : Point) (s : Segment) → IsInBox p b → IsSpanned a s → is_near d p s ≡ true → gap_x a b * gap_x a b + gap_y a b * gap_y a b ≤ d * d
end_back d a b p s i j e = rw (gap_turned (b.low.x -ℤ a.high.x) (a.low.x -ℤ b.high.x), gap_turned (b.low.y -ℤ a.high.y) (a.low.y -ℤ b.high.y)) (end_far d b a p s i j e)

pair_far : (d : ℕ) (a b : Bounds) (s t : Segment) → IsSpanned a s → IsSpanned b t → are_near d s t ≡ true → gap_x a b * gap_x a b + gap_y a b * gap_y a b ≤ d * d
unfolding are_near
pair_far d a b s t i j e = elim (either (is_near d s.from t || is_near d s.to t) (is_near d t.from s || is_near d t.to s) e) [
  | inl k ↦ elim (either (is_near d s.from t) (is_near d s.to t) k) [
    | inl l ↦ end_far d a b s.from t i.from j l
    | inr l ↦ end_far d a b s.to t i.to j l
  ]
  | inr k ↦ elim (either (is_near d t.from s) (is_near d t.to s) k) [
    | inl l ↦ end_back d a b t.from s j.from i l
    | inr l ↦ end_back d a b t.to s j.to i l
  ]
]

farther_gives : (d : ℕ) (a b : Bounds) → are_farther d a b ≡ true → d * d < gap_x a b * gap_x a b + gap_y a b * gap_y a b
unfolding are_farther
farther_gives d a b e = ltb-true _ _ e

-- Segments of boxes that lie farther apart are not near.
not_near : (d : ℕ) (a b : Bounds) (s t : Segment) → are_farther d a b ≡ true → IsSpanned a s → IsSpanned b t → are_near d s t ≡ false
not_near d a b s t far i j = not_true (are_near d s t) (λ e. let low = pair_far d a b s t i j e in let high = farther_gives d a b far in absurd (omega arith))

near_none : (d : ℕ) (a b : Bounds) (s : Segment) (ts : List Segment) → are_farther d a b ≡ true → IsSpanned a s → AllByRecursion (IsSpanned b) ts → near_some d s ts ≡ false
near_none d a b s [] far i j = refl
near_none d a b s (t ∷ ts) far i j = rw (not_near d a b s t far i j.0, near_none d a b s ts far i j.1) refl

none_near : (d : ℕ) (a b : Bounds) (ss ts : List Segment) → are_farther d a b ≡ true → AllByRecursion (IsSpanned a) ss → AllByRecursion (IsSpanned b) ts → are_any_near d ss ts ≡ false
none_near d a b [] ts far i j = refl
none_near d a b (s ∷ ss) ts far i j = rw (near_none d a b s ts far i.0 j, none_near d a b ss ts far i.1 j) refl

spanned : (s : Segment) → IsSpanned (box_of_segment s) s
spanned s = record { from = IsInBox-from s; to = IsInBox-to s }

-- Two segments by their own boxes.
pair_apart : (d : ℕ) (s t : Segment) → are_farther d (box_of_segment s) (box_of_segment t) ≡ true → false ≡ are_near d s t
pair_apart d s t far = sym (not_near d (box_of_segment s) (box_of_segment t) s t far (spanned s) (spanned t))

-- A segment by its own box, and a geometry by its bounds.
pub segment_apart : (d : ℕ) (s : Segment) (g : Geometry) (b : Bounds) → IsLeastBox b (positions_of g) → are_farther d (box_of_segment s) b ≡ true → false ≡ near_some d s (segments_of g)
segment_apart d s g b least far = sym (near_none d (box_of_segment s) b s (segments_of g) far (spanned s) (segments-in b g (recursion_from_All (λ q. IsInBox q b) (positions_of g) least.holds)))

gap_up : (y z : ℤ) → 0 < gap y z → (pos 0 <ℤ y) ⊎ (pos 0 <ℤ z)
gap_up y z h = ⊎_elim
    (λ (k : pos (gap y z) ≡ y). inl (omega (arith, ints)))
    (⊎_elim (λ (k : pos (gap y z) ≡ z). inr (omega (arith, ints))) (λ (k : gap y z ≡ 0). absurd (omega arith)))
    (gap_cases y z)

some_gap : (d x y : ℕ) → d * d < x * x + y * y → (0 < x) ⊎ (0 < y)
some_gap d zero zero h = absurd (omega arith)
some_gap d (suc x) y h = inl (omega arith)
some_gap d zero (suc y) h = inr (omega arith)

farther_apart : (d : ℕ) (a b : Bounds) → are_farther d a b ≡ true → are_apart a b ≡ true
farther_apart d a b far = way_back a b (elim (some_gap d (gap_x a b) (gap_y a b) (farther_gives d a b far)) [
  | inl h ↦ elim (gap_up (b.low.x -ℤ a.high.x) (a.low.x -ℤ b.high.x) h) [ inl k ↦ before_x (omega (arith, ints)) | inr k ↦ after_x (omega (arith, ints)) ]
  | inr h ↦ elim (gap_up (b.low.y -ℤ a.high.y) (a.low.y -ℤ b.high.y) h) [ inl k ↦ before_y (omega (arith, ints)) | inr k ↦ after_y (omega (arith, ints)) ]
])

-- Two geometries by their bounds.
pub geometries_apart : (d : ℕ) (a b : Geometry) (m n : Bounds) → IsLeastBox m (positions_of a) → IsLeastBox n (positions_of b) →
    ((p : Point) → is_covered p a ≡ true → IsInBox p m) → ((p : Point) → is_covered p b ≡ true → IsInBox p n) → are_farther d m n ≡ true → false ≡ is_within_distance a b d
unfolding is_within_distance
geometries_apart d a b m n i j f g far = sym (rw (
  sym (apart-no_share a b m n i j f g (farther_apart d m n far)),
  none_near d m n (segments_of a) (segments_of b) far
      (segments-in m a (recursion_from_All (λ q. IsInBox q m) (positions_of a) i.holds))
      (segments-in n b (recursion_from_All (λ q. IsInBox q n) (positions_of b) j.holds)),
) refl)

gap_holds : (y z : ℤ) → (y ≤ℤ pos (gap y z)) × (z ≤ℤ pos (gap y z))
gap_holds y z = (omega (arith, ints, clamps), omega (arith, ints, clamps))

wide : (d x y : ℕ) → d < x → d * d < x * x + y * y
wide d x y h = let more = mul-le (d + 1) (d + 1) x x (omega arith) (omega arith) in omega arith

tall : (d x y : ℕ) → d < y → d * d < x * x + y * y
tall d x y h = let more = mul-le (d + 1) (d + 1) y y (omega arith) (omega arith) in omega arith

farther_from : (d : ℕ) (a b : Bounds) → d * d < gap_x a b * gap_x a b + gap_y a b * gap_y a b → are_farther d a b ≡ true
unfolding are_farther
farther_from d a b h = lt-ltb _ _ h

lt_fact : (a b : ℤ) → int_lt a b ≡ true → a <ℤ b
lt_fact a b h = grind (arith, ints)

beyond_x : (d : ℕ) (a b : Bounds) → ((a.high.x +ℤ pos d) <ℤ b.low.x) ⊎ ((b.high.x +ℤ pos d) <ℤ a.low.x) → are_farther d a b ≡ true
beyond_x d a b h =
    let g = gap_holds (b.low.x -ℤ a.high.x) (a.low.x -ℤ b.high.x) in let g0 = g.0 in let g1 = g.1 in
    farther_from d a b (wide d (gap_x a b) (gap_y a b) (⊎_elim
    (λ (k : (a.high.x +ℤ pos d) <ℤ b.low.x). omega (arith, ints))
    (λ (k : (b.high.x +ℤ pos d) <ℤ a.low.x). omega (arith, ints))
    h))

beyond_y : (d : ℕ) (a b : Bounds) → ((a.high.y +ℤ pos d) <ℤ b.low.y) ⊎ ((b.high.y +ℤ pos d) <ℤ a.low.y) → are_farther d a b ≡ true
beyond_y d a b h =
    let g = gap_holds (b.low.y -ℤ a.high.y) (a.low.y -ℤ b.high.y) in let g0 = g.0 in let g1 = g.1 in
    farther_from d a b (tall d (gap_x a b) (gap_y a b) (⊎_elim
    (λ (k : (a.high.y +ℤ pos d) <ℤ b.low.y). omega (arith, ints))
    (λ (k : (b.high.y +ℤ pos d) <ℤ a.low.y). omega (arith, ints))
    h))

both_above : (z e f : ℤ) → (int_lt z e && int_lt z f) ≡ true → z <ℤ int_min e f
both_above z e f h =
    let k = both (int_lt z e) (int_lt z f) h in
    let a = lt_fact z e k.0 in let b = lt_fact z f k.1 in
    omega (arith, ints, clamps)

both_below : (z e f : ℤ) → (int_lt e z && int_lt f z) ≡ true → int_max e f <ℤ z
both_below z e f h =
    let k = both (int_lt e z) (int_lt f z) h in
    let a = lt_fact e z k.0 in let b = lt_fact f z k.1 in
    omega (arith, ints, clamps)

moved : (m n : ℤ) (d : ℕ) → m <ℤ (n -ℤ pos d) → (m +ℤ pos d) <ℤ n
moved m n d h = omega (arith, ints)

reach_farther : (d : ℕ) (s t : Segment) → is_beyond (reach_of d s) t ≡ true → are_farther d (box_of_segment s) (box_of_segment t) ≡ true
unfolding is_beyond
reach_farther d s t h =
    let r : Reach = reach_of d s in
    elim (either ((int_lt r.east t.from.x && int_lt r.east t.to.x) || (int_lt t.from.x r.west && int_lt t.to.x r.west)) ((int_lt r.north t.from.y && int_lt r.north t.to.y) || (int_lt t.from.y r.south && int_lt t.to.y r.south)) h) [
      | inl x ↦ beyond_x d (box_of_segment s) (box_of_segment t) (elim (either (int_lt r.east t.from.x && int_lt r.east t.to.x) (int_lt t.from.x r.west && int_lt t.to.x r.west) x) [
        | inl k ↦ inl (both_above r.east t.from.x t.to.x k)
        | inr k ↦ inr (moved (int_max t.from.x t.to.x) (int_min s.from.x s.to.x) d (both_below r.west t.from.x t.to.x k))
      ])
      | inr y ↦ beyond_y d (box_of_segment s) (box_of_segment t) (elim (either (int_lt r.north t.from.y && int_lt r.north t.to.y) (int_lt t.from.y r.south && int_lt t.to.y r.south) y) [
        | inl k ↦ inl (both_above r.north t.from.y t.to.y k)
        | inr k ↦ inr (moved (int_max t.from.y t.to.y) (int_min s.from.y s.to.y) d (both_below r.south t.from.y t.to.y k))
      ])
    ]

-- What lies beyond the reach of a segment is not near it.
pub reach_apart : (d : ℕ) (s t : Segment) (r : Reach) → r ≡ reach_of d s → is_beyond r t ≡ true → false ≡ are_near d s t
reach_apart d s t r is h = pair_apart d s t (reach_farther d s t (subst (λ (x : Reach). is_beyond x t ≡ true) is h))
