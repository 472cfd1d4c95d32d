-- Segments that meet have bounds that meet, and it does not matter which is named first.
use Rattle.std.proofs.Common.{◌≡◌, ℤ, pos, ◌<ℤ◌, Bool, true, false, ◌&&◌, ◌||◌, inl, inr, int_lt, int_le, ◌∙◌, sym, refl, arith}
use Rattle.std.proofs.lemmas.Int.{ints, clamps}
use Rattle.std.specs.Int.{int_min, int_max}
use Rattle.std.specs.Ordering.{int_eq}
use Rattle.geom_core.specs.Plane.{Point, Bounds, box_between, is_beyond, are_apart, IsInBox}
use Rattle.geom_core.specs.Segments.{Segment, sign, is_between, is_beside, is_on, are_opposite, do_cross, do_touch, do_meet}
use Rattle.geom_core.proofs.Both.{both, either, not_true, or_left, or_right, or_comm, and_comm}
use Rattle.geom_core.proofs.Crossing.{CrossLeft, not_before, not_after, CrossLeft-exchanged, cross-is, exchanged}

-- The bounds of a segment.
abbrev pub box_of_segment : Segment → Bounds
box_of_segment s = box_between s.from s.to

pub IsInBox-beside : (p : Point) (s : Segment) → is_beside p s ≡ true → IsInBox p (box_of_segment s)
unfolding is_beside is_between
IsInBox-beside p s h =
    let e = both (int_le (int_min s.from.x s.to.x) p.x && int_le p.x (int_max s.from.x s.to.x)) (int_le (int_min s.from.y s.to.y) p.y && int_le p.y (int_max s.from.y s.to.y)) h in
    let f = both (int_le (int_min s.from.x s.to.x) p.x) (int_le p.x (int_max s.from.x s.to.x)) e.0 in
    let g = both (int_le (int_min s.from.y s.to.y) p.y) (int_le p.y (int_max s.from.y s.to.y)) e.1 in
    let f0 = f.0 in let f1 = f.1 in let g0 = g.0 in let g1 = g.1 in
    record { from_x = omega (arith, ints); to_x = omega (arith, ints); from_y = omega (arith, ints); to_y = omega (arith, ints) }

pub IsInBox-on : (p : Point) (s : Segment) → is_on p s ≡ true → IsInBox p (box_of_segment s)
unfolding is_on
IsInBox-on p s h = IsInBox-beside p s (both (is_beside p s) (int_eq (sign s.from s.to p) (pos 0)) h).0

pub IsInBox-from : (s : Segment) → IsInBox s.from (box_of_segment s)
IsInBox-from s = record { from_x = omega (arith, ints, clamps); to_x = omega (arith, ints, clamps); from_y = omega (arith, ints, clamps); to_y = omega (arith, ints, clamps) }

pub IsInBox-to : (s : Segment) → IsInBox s.to (box_of_segment s)
IsInBox-to s = record { from_x = omega (arith, ints, clamps); to_x = omega (arith, ints, clamps); from_y = omega (arith, ints, clamps); to_y = omega (arith, ints, clamps) }

-- The four ways of two boxes to be apart.
pub data Way (a b : Bounds) : Type 0 where
  after_x : b.high.x <ℤ a.low.x → Way a b
  after_y : b.high.y <ℤ a.low.y → Way a b
  before_x : a.high.x <ℤ b.low.x → Way a b
  before_y : a.high.y <ℤ b.low.y → Way a b

pub way : (a b : Bounds) → are_apart a b ≡ true → Way a b
unfolding are_apart
way a b h = elim (either (is_beyond a.low b.high) (is_beyond b.low a.high) h) [
  | inl k ↦ elim (either (int_lt b.high.x a.low.x) (int_lt b.high.y a.low.y) k) [ inl l ↦ after_x (omega (arith, ints)) | inr l ↦ after_y (omega (arith, ints)) ]
  | inr k ↦ elim (either (int_lt a.high.x b.low.x) (int_lt a.high.y b.low.y) k) [ inl l ↦ before_x (omega (arith, ints)) | inr l ↦ before_y (omega (arith, ints)) ]
]

-- Boxes that share a point are not apart.
pub shared : (p : Point) (a b : Bounds) → IsInBox p a → IsInBox p b → are_apart a b ≡ true → ⊥
shared p a b i j h = elim (way a b h) [
  | after_x k ↦ omega (arith, ints)
  | after_y k ↦ omega (arith, ints)
  | before_x k ↦ omega (arith, ints)
  | before_y k ↦ omega (arith, ints)
]

-- Nor are those of segments that cross.
pub left_parted : (a b c d : Point) → CrossLeft a b c d → Way (box_between a b) (box_between c d) → ⊥
left_parted a b c d x w = elim w [
  | after_x k ↦ not_after a b c d x (omega (arith, ints, clamps)) (omega (arith, ints, clamps)) (omega (arith, ints, clamps)) (omega (arith, ints, clamps))
  | before_x k ↦ not_before a b c d x (omega (arith, ints, clamps)) (omega (arith, ints, clamps)) (omega (arith, ints, clamps)) (omega (arith, ints, clamps))
  | after_y k ↦ not_after (exchanged a) (exchanged b) (exchanged d) (exchanged c) (CrossLeft-exchanged a b c d x)
      (omega (arith, ints, clamps)) (omega (arith, ints, clamps)) (omega (arith, ints, clamps)) (omega (arith, ints, clamps))
  | before_y k ↦ not_before (exchanged a) (exchanged b) (exchanged d) (exchanged c) (CrossLeft-exchanged a b c d x)
      (omega (arith, ints, clamps)) (omega (arith, ints, clamps)) (omega (arith, ints, clamps)) (omega (arith, ints, clamps))
]

pub Way-turned : (b : Bounds) (c d : Point) → Way b (box_between c d) → Way b (box_between d c)
Way-turned b c d w = elim w [
  | after_x k ↦ after_x (omega (arith, ints, clamps))
  | after_y k ↦ after_y (omega (arith, ints, clamps))
  | before_x k ↦ before_x (omega (arith, ints, clamps))
  | before_y k ↦ before_y (omega (arith, ints, clamps))
]

pub cross_shared : (s t : Segment) → do_cross s t ≡ true → are_apart (box_of_segment s) (box_of_segment t) ≡ true → ⊥
cross_shared s t x h =
    let w : Way (box_of_segment s) (box_of_segment t) = way (box_of_segment s) (box_of_segment t) h in
    elim (cross-is s.from s.to t.from t.to x) [
      | inl l ↦ left_parted s.from s.to t.from t.to l w
      | inr l ↦ left_parted s.from s.to t.to t.from l (Way-turned (box_of_segment s) t.from t.to w)
    ]

pub meet_shared : (s t : Segment) → do_meet s t ≡ true → are_apart (box_of_segment s) (box_of_segment t) ≡ true → ⊥
unfolding do_meet do_touch
meet_shared s t m h = elim (either ((is_on s.from t || is_on s.to t) || (is_on t.from s || is_on t.to s)) (do_cross s t) m) [
  | inl touch ↦ elim (either (is_on s.from t || is_on s.to t) (is_on t.from s || is_on t.to s) touch) [
    | inl one ↦ elim (either (is_on s.from t) (is_on s.to t) one) [
      | inl on ↦ shared s.from (box_of_segment s) (box_of_segment t) (IsInBox-from s) (IsInBox-on s.from t on) h
      | inr on ↦ shared s.to (box_of_segment s) (box_of_segment t) (IsInBox-to s) (IsInBox-on s.to t on) h
    ]
    | inr one ↦ elim (either (is_on t.from s) (is_on t.to s) one) [
      | inl on ↦ shared t.from (box_of_segment s) (box_of_segment t) (IsInBox-on t.from s on) (IsInBox-from t) h
      | inr on ↦ shared t.to (box_of_segment s) (box_of_segment t) (IsInBox-on t.to s on) (IsInBox-to t) h
    ]
  ]
  | inr cross ↦ cross_shared s t cross h
]

pub apart-no_meet : (s t : Segment) → are_apart (box_of_segment s) (box_of_segment t) ≡ true → do_meet s t ≡ false
apart-no_meet s t h = not_true (do_meet s t) (λ m. meet_shared s t m h)

pub do_touch-symmetric : (s t : Segment) → do_touch s t ≡ do_touch t s
unfolding do_touch
do_touch-symmetric s t = or_comm (is_on s.from t || is_on s.to t) (is_on t.from s || is_on t.to s)

pub do_cross-symmetric : (s t : Segment) → do_cross s t ≡ do_cross t s
unfolding do_cross
do_cross-symmetric s t = and_comm (are_opposite (sign s.from s.to t.from) (sign s.from s.to t.to)) (are_opposite (sign t.from t.to s.from) (sign t.from t.to s.to))

pub do_meet-symmetric : (s t : Segment) → do_meet s t ≡ do_meet t s
unfolding do_meet
do_meet-symmetric s t = rw (do_touch-symmetric s t, do_cross-symmetric s t) refl

pub touch-meets : (s t : Segment) (b : Bool) → b ≡ do_touch s t → b ≡ true → b ≡ do_meet t s
unfolding do_meet
touch-meets s t b e h =
    let yes : do_touch t s ≡ true = do_touch-symmetric t s ∙ (sym e ∙ h) in
    h ∙ rw yes refl

pub cross-meets : (s t : Segment) (b k : Bool) → b ≡ do_touch s t → b ≡ false → k ≡ do_cross s t → k ≡ do_meet t s
unfolding do_meet
cross-meets s t b k e h f =
    let no : do_touch t s ≡ false = do_touch-symmetric t s ∙ (sym e ∙ h) in
    rw (no, f, do_cross-symmetric s t) refl

lt_test : (a b : ℤ) → a <ℤ b → int_lt a b ≡ true
lt_test a b h = grind (arith, ints)

pub way_back : (a b : Bounds) → Way a b → are_apart a b ≡ true
unfolding are_apart
way_back a b w = elim w [
  | after_x k ↦ or_left (is_beyond a.low b.high) (is_beyond b.low a.high) (or_left (int_lt b.high.x a.low.x) (int_lt b.high.y a.low.y) (lt_test b.high.x a.low.x k))
  | after_y k ↦ or_left (is_beyond a.low b.high) (is_beyond b.low a.high) (or_right (int_lt b.high.x a.low.x) (int_lt b.high.y a.low.y) (lt_test b.high.y a.low.y k))
  | before_x k ↦ or_right (is_beyond a.low b.high) (is_beyond b.low a.high) (or_left (int_lt a.high.x b.low.x) (int_lt a.high.y b.low.y) (lt_test a.high.x b.low.x k))
  | before_y k ↦ or_right (is_beyond a.low b.high) (is_beyond b.low a.high) (or_right (int_lt a.high.x b.low.x) (int_lt a.high.y b.low.y) (lt_test a.high.y b.low.y k))
]
