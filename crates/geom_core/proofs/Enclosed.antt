-- A point that lies within a closed ring or on it lies in the ring's least box.
use Rattle.std.proofs.Common.{◌≡◌, ℕ, ◌+◌, suc, zero, ℤ, pos, negsuc, ◌-ℤ◌, ◌*ℤ◌, ◌<ℤ◌, ◌≤ℤ◌, Bool, true, false, not, cond, ◌&&◌, ◌||◌, inl, inr, int_lt, int_le, List, [], ◌∷◌, ap, ◌∙◌, sym, refl, arith}
use Rattle.std.proofs.lemmas.Int.{ints, clamps, by_lt_z}
use Rattle.std.proofs.lemmas.Bool.Decides.{nat_tests}
use Rattle.std.proofs.lemmas.List.Sums.{sum_by-cons}
use Rattle.std.specs.List.{count_by, list_any, AllByRecursion}
use Rattle.std.specs.Ordering.{int_eq}
use Rattle.std.specs.Cmp.{signed_Decides}
use Rattle.geom_core.specs.Plane.{Point, Bounds, IsInBox}
use Rattle.geom_core.specs.Segments.{sign_of, sign, is_on}
use Rattle.geom_core.specs.Rings.{edges_from, rises_past, is_crossed, is_odd, is_on_ring, is_round, is_within}
use Rattle.geom_core.specs.Shapes.{is_closed, last_of}
use Rattle.geom_core.proofs.Parts.{minus, times, same_from}
use Rattle.geom_core.proofs.Crossing.{det, det_parts, away, above-times, below-times}
use Rattle.geom_core.proofs.Both.{both, either}
use Rattle.geom_core.proofs.Meeting.{IsInBox-on, box_of_segment}

-- The sign of an edge's corner at p, by how p lies to its ends.
pub det-lifted : (p q r : Point) → det q r p ≡ (r.x -ℤ p.x) *ℤ (p.y -ℤ q.y) -ℤ (r.y -ℤ p.y) *ℤ (p.x -ℤ q.x)
det-lifted p q r = same_from (det q r p) ((r.x -ℤ p.x) *ℤ (p.y -ℤ q.y) -ℤ (r.y -ℤ p.y) *ℤ (p.x -ℤ q.x))
    (det_parts q r p)
    (minus _ _ (times (r.x -ℤ p.x) (p.y -ℤ q.y) (away p.x r.x) (away q.y p.y)) (times (r.y -ℤ p.y) (p.x -ℤ q.x) (away p.y r.y) (away q.x p.x)))
    (omega arith)

not-below-times : (a b : ℤ) → pos 0 ≤ℤ a → pos 0 ≤ℤ b → pos 0 ≤ℤ (a *ℤ b)
not-below-times (pos m) (pos n) h k = omega (arith, ints)
not-below-times (pos m) (negsuc n) h k = absurd (omega (arith, ints))
not-below-times (negsuc m) b h k = absurd (omega (arith, ints))

not-above-times : (a b : ℤ) → a ≤ℤ pos 0 → pos 0 ≤ℤ b → (a *ℤ b) ≤ℤ pos 0
not-above-times (pos zero) (pos n) h k = omega (arith, ints)
not-above-times (pos (suc m)) b h k = absurd (omega (arith, ints))
not-above-times (negsuc m) (pos n) h k = omega (arith, ints)
not-above-times (pos zero) (negsuc n) h k = absurd (omega (arith, ints))
not-above-times (negsuc m) (negsuc n) h k = absurd (omega (arith, ints))

test_above : (z : ℤ) → pos 0 <ℤ z → int_lt (pos 0) (sign_of z) ≡ true
test_above (pos zero) h = absurd (omega (arith, ints))
test_above (pos (suc n)) h = refl
test_above (negsuc n) h = absurd (omega (arith, ints))

test_not_above : (z : ℤ) → z ≤ℤ pos 0 → int_lt (pos 0) (sign_of z) ≡ false
test_not_above (pos zero) h = refl
test_not_above (pos (suc n)) h = absurd (omega (arith, ints))
test_not_above (negsuc n) h = refl

-- p lies to lesser x of both ends.
left_of : (p q r : Point) → p.x <ℤ q.x → p.x <ℤ r.x → int_le q.y p.y ≡ true → int_lt p.y r.y ≡ true → int_lt (pos 0) (sign q r p) ≡ true
unfolding sign
left_of p q r pq pr qp pr' =
    let low : q.y ≤ℤ p.y = omega (arith, ints) in
    let high : p.y <ℤ r.y = omega (arith, ints) in
    let one : pos 0 ≤ℤ ((r.x -ℤ p.x) *ℤ (p.y -ℤ q.y)) = not-below-times (r.x -ℤ p.x) (p.y -ℤ q.y) (omega (arith, ints)) (omega (arith, ints)) in
    let two : ((r.y -ℤ p.y) *ℤ (p.x -ℤ q.x)) <ℤ pos 0 = below-times (r.y -ℤ p.y) (p.x -ℤ q.x) (omega (arith, ints)) (omega (arith, ints)) in
    test_above (det q r p) (along (det q r p) ((r.x -ℤ p.x) *ℤ (p.y -ℤ q.y)) ((r.y -ℤ p.y) *ℤ (p.x -ℤ q.x)) (det-lifted p q r) one two)
  where
    along : (z m n : ℤ) → z ≡ m -ℤ n → pos 0 ≤ℤ m → n <ℤ pos 0 → pos 0 <ℤ z
    along z m n e h k = omega (arith, ints)

-- p lies to greater x of both ends.
right_of : (p q r : Point) → q.x <ℤ p.x → r.x <ℤ p.x → int_le q.y p.y ≡ true → int_lt p.y r.y ≡ true → int_lt (pos 0) (sign q r p) ≡ false
unfolding sign
right_of p q r pq pr qp pr' =
    let low : q.y ≤ℤ p.y = omega (arith, ints) in
    let high : p.y <ℤ r.y = omega (arith, ints) in
    let one : ((r.x -ℤ p.x) *ℤ (p.y -ℤ q.y)) ≤ℤ pos 0 = not-above-times (r.x -ℤ p.x) (p.y -ℤ q.y) (omega (arith, ints)) (omega (arith, ints)) in
    let two : pos 0 <ℤ ((r.y -ℤ p.y) *ℤ (p.x -ℤ q.x)) = above-times (r.y -ℤ p.y) (p.x -ℤ q.x) (omega (arith, ints)) (omega (arith, ints)) in
    test_not_above (det q r p) (along (det q r p) ((r.x -ℤ p.x) *ℤ (p.y -ℤ q.y)) ((r.y -ℤ p.y) *ℤ (p.x -ℤ q.x)) (det-lifted p q r) one two)
  where
    along : (z m n : ℤ) → z ≡ m -ℤ n → m ≤ℤ pos 0 → pos 0 <ℤ n → z ≤ℤ pos 0
    along z m n e h k = omega (arith, ints)

abbrev pub xor : Bool → Bool → Bool
xor true b = not b
xor false b = b

le_is : (a b : ℤ) → int_le a b ≡ not (int_lt b a)
le_is a b = grind (arith, ints)

-- The two ways of an edge to be crossed, by which ends are above and how the signs test.
crossed_by : (q r low high : Bool) → (q ≡ false → r ≡ true → low ≡ true) → (r ≡ false → q ≡ true → high ≡ true) →
    (((not q && r) && low) || ((not r && q) && high)) ≡ xor q r
crossed_by true true low high f g = refl
crossed_by true false low high f g = g refl refl
crossed_by false true low high f g = ap (λ b. b || false) (f refl refl)
crossed_by false false low high f g = refl

none_by : (q r low high : Bool) → (q ≡ false → r ≡ true → low ≡ false) → (r ≡ false → q ≡ true → high ≡ false) →
    (((not q && r) && low) || ((not r && q) && high)) ≡ false
none_by true true low high f g = refl
none_by true false low high f g = g refl refl
none_by false true low high f g = ap (λ b. b || false) (f refl refl)
none_by false false low high f g = refl

above_test : (a b : ℤ) → int_lt a b ≡ false → int_le b a ≡ true
above_test a b h = le_is b a ∙ ap not h

crossed-shape : (p q r : Point) → is_crossed p (record { from = q; to = r }) ≡
    (((not (int_lt p.y q.y) && int_lt p.y r.y) && int_lt (pos 0) (sign q r p)) || ((not (int_lt p.y r.y) && int_lt p.y q.y) && int_lt (pos 0) (sign r q p)))
unfolding is_crossed rises_past
crossed-shape p q r = rw (le_is q.y p.y, le_is r.y p.y) refl

crossed-left : (p q r : Point) → p.x <ℤ q.x → p.x <ℤ r.x → is_crossed p (record { from = q; to = r }) ≡ xor (int_lt p.y q.y) (int_lt p.y r.y)
crossed-left p q r h k = crossed-shape p q r ∙ crossed_by (int_lt p.y q.y) (int_lt p.y r.y) (int_lt (pos 0) (sign q r p)) (int_lt (pos 0) (sign r q p))
    (λ a b. left_of p q r h k (above_test p.y q.y a) b) (λ a b. left_of p r q k h (above_test p.y r.y a) b)

pub crossed-right : (p q r : Point) → q.x <ℤ p.x → r.x <ℤ p.x → is_crossed p (record { from = q; to = r }) ≡ false
crossed-right p q r h k = crossed-shape p q r ∙ none_by (int_lt p.y q.y) (int_lt p.y r.y) (int_lt (pos 0) (sign q r p)) (int_lt (pos 0) (sign r q p))
    (λ a b. right_of p q r h k (above_test p.y q.y a) b) (λ a b. right_of p r q k h (above_test p.y r.y a) b)

pub crossed-under : (p q r : Point) → p.y <ℤ q.y → p.y <ℤ r.y → is_crossed p (record { from = q; to = r }) ≡ false
crossed-under p q r h k =
    let e : int_lt p.y q.y ≡ true = grind (arith, ints) in
    let f : int_lt p.y r.y ≡ true = grind (arith, ints) in
    crossed-shape p q r ∙ rw (e, f) refl

pub crossed-over : (p q r : Point) → q.y <ℤ p.y → r.y <ℤ p.y → is_crossed p (record { from = q; to = r }) ≡ false
crossed-over p q r h k =
    let e : int_lt p.y q.y ≡ false = grind (arith, ints) in
    let f : int_lt p.y r.y ≡ false = grind (arith, ints) in
    crossed-shape p q r ∙ rw (e, f) refl

pub is_odd-suc : (n : ℕ) → is_odd (1 + n) ≡ not (is_odd n)
is_odd-suc n = grind (arith, nat_tests)

-- A path all of whose edges are uncrossed.
pub none-crossed : (p : Point) (P : Point → Type 0) → ((q r : Point) → P q → P r → is_crossed p (record { from = q; to = r }) ≡ false) →
    (q : Point) (qs : List Point) → P q → AllByRecursion P qs → count_by (is_crossed p) (edges_from q qs) ≡ 0
none-crossed p P un q [] h a = refl
none-crossed p P un q (r ∷ rs) h a =
    omega (
      arith,
      sum_by-cons (λ s. cond (is_crossed p s) 1 0) (record { from = q; to = r }) (edges_from r rs),
      ap {B = ℕ} (λ b. cond b 1 0) (un q r h a.0),
      none-crossed p P un r rs a.0 a.1,
    )

xor-same : (a : Bool) → false ≡ xor a a
xor-same true = refl
xor-same false = refl

xor-along : (a b c : Bool) → xor (xor a b) (xor b c) ≡ xor a c
xor-along true true true = refl
xor-along true true false = refl
xor-along true false true = refl
xor-along true false false = refl
xor-along false true true = refl
xor-along false true false = refl
xor-along false false true = refl
xor-along false false false = refl

odd-more : (b : Bool) (n : ℕ) → is_odd (cond b 1 0 + n) ≡ xor b (is_odd n)
odd-more true n = is_odd-suc n
odd-more false n = ap is_odd (omega arith)

-- From a point to lesser x of a path, the count is odd where exactly one of the path's ends is above it.
pub parity-left : (p q : Point) (qs : List Point) → p.x <ℤ q.x → AllByRecursion (λ r. p.x <ℤ r.x) qs →
    is_odd (count_by (is_crossed p) (edges_from q qs)) ≡ xor (int_lt p.y q.y) (int_lt p.y (last_of q qs).y)
parity-left p q [] h a = xor-same (int_lt p.y q.y)
parity-left p q (r ∷ rs) h a =
    let n = count_by (is_crossed p) (edges_from r rs) in
    let e : count_by (is_crossed p) (edges_from q (r ∷ rs)) ≡ cond (is_crossed p (record { from = q; to = r })) 1 0 + n =
    sum_by-cons (λ s. cond (is_crossed p s) 1 0) (record { from = q; to = r }) (edges_from r rs) in
    ap is_odd e ∙ (odd-more (is_crossed p (record { from = q; to = r })) n
    ∙ (ap (λ b. xor b (is_odd n)) (crossed-left p q r h a.0)
    ∙ (ap (xor (xor (int_lt p.y q.y) (int_lt p.y r.y))) (parity-left p r rs a.0 a.1)
    ∙ xor-along (int_lt p.y q.y) (int_lt p.y r.y) (int_lt p.y (last_of r rs).y))))

closed-level : (q : Point) (qs : List Point) → is_closed (q ∷ qs) ≡ true → q.y ≡ (last_of q qs).y
closed-level q qs h =
    let e = both (int_eq q.x (last_of q qs).x) (int_eq q.y (last_of q qs).y) h in
    (signed_Decides q.y (last_of q qs).y).0 e.1

pub each : (P Q : Point → Type 0) → ((q : Point) → P q → Q q) → (qs : List Point) → AllByRecursion P qs → AllByRecursion Q qs
each P Q f [] a = tt
each P Q f (q ∷ qs) a = (f q a.0, each P Q f qs a.1)

not_odd : (n : ℕ) → n ≡ 0 → is_odd n ≡ true → ⊥
not_odd n e h = let f : is_odd n ≡ false = ap is_odd e in cc

-- Within the box of a closed ring's points lies each point that the ring goes round.
round_in_box : (p q : Point) (qs : List Point) (b : Bounds) → is_closed (q ∷ qs) ≡ true →
    IsInBox q b → AllByRecursion (λ r. IsInBox r b) qs → is_round p (q ∷ qs) ≡ true → IsInBox p b
unfolding is_round
round_in_box p q qs b closed i a odd = record {
  from_x = by_lt_z p.x b.low.x
      (λ (lt : p.x <ℤ b.low.x).
      let e : is_odd (count_by (is_crossed p) (edges_from q qs)) ≡ false =
      parity-left p q qs (before p.x q b lt i) (each (λ r. IsInBox r b) (λ r. p.x <ℤ r.x) (λ r j. before p.x r b lt j) qs a)
      ∙ (ap (λ z. xor (int_lt p.y q.y) (int_lt p.y z)) (sym (closed-level q qs closed)) ∙ sym (xor-same (int_lt p.y q.y))) in
      absurd (clash (is_odd (count_by (is_crossed p) (edges_from q qs))) e odd))
      (λ le. le);
  to_x = by_lt_z b.high.x p.x
      (λ (lt : b.high.x <ℤ p.x). absurd (not_odd (count_by (is_crossed p) (edges_from q qs))
      (none-crossed p (λ r. r.x <ℤ p.x) (λ r s h k. crossed-right p r s h k) q qs (after p.x q b lt i)
      (each (λ r. IsInBox r b) (λ r. r.x <ℤ p.x) (λ r j. after p.x r b lt j) qs a)) odd))
      (λ le. le);
  from_y = by_lt_z p.y b.low.y
      (λ (lt : p.y <ℤ b.low.y). absurd (not_odd (count_by (is_crossed p) (edges_from q qs))
      (none-crossed p (λ r. p.y <ℤ r.y) (λ r s h k. crossed-under p r s h k) q qs (under p.y q b lt i)
      (each (λ r. IsInBox r b) (λ r. p.y <ℤ r.y) (λ r j. under p.y r b lt j) qs a)) odd))
      (λ le. le);
  to_y = by_lt_z b.high.y p.y
      (λ (lt : b.high.y <ℤ p.y). absurd (not_odd (count_by (is_crossed p) (edges_from q qs))
      (none-crossed p (λ r. r.y <ℤ p.y) (λ r s h k. crossed-over p r s h k) q qs (over p.y q b lt i)
      (each (λ r. IsInBox r b) (λ r. r.y <ℤ p.y) (λ r j. over p.y r b lt j) qs a)) odd))
      (λ le. le);
}
  where
    before : (z : ℤ) (r : Point) (b : Bounds) → z <ℤ b.low.x → IsInBox r b → z <ℤ r.x
    before z r b h i = omega (arith, ints)

    after : (z : ℤ) (r : Point) (b : Bounds) → b.high.x <ℤ z → IsInBox r b → r.x <ℤ z
    after z r b h i = omega (arith, ints)

    under : (z : ℤ) (r : Point) (b : Bounds) → z <ℤ b.low.y → IsInBox r b → z <ℤ r.y
    under z r b h i = omega (arith, ints)

    over : (z : ℤ) (r : Point) (b : Bounds) → b.high.y <ℤ z → IsInBox r b → r.y <ℤ z
    over z r b h i = omega (arith, ints)

    clash : (x : Bool) → x ≡ false → x ≡ true → ⊥
    clash x e f = cc

-- And each point on an edge of a path of points in the box.
segment_in_box : (p q r : Point) (b : Bounds) → IsInBox q b → IsInBox r b → IsInBox p (box_of_segment (record { from = q; to = r })) → IsInBox p b
segment_in_box p q r b i j k = record { from_x = omega (arith, ints, clamps); to_x = omega (arith, ints, clamps); from_y = omega (arith, ints, clamps); to_y = omega (arith, ints, clamps) }

pub on_in_box : (p q : Point) (qs : List Point) (b : Bounds) → IsInBox q b → AllByRecursion (λ r. IsInBox r b) qs →
    list_any (is_on p) (edges_from q qs) ≡ true → IsInBox p b
on_in_box p q [] b i a h = cc
on_in_box p q (r ∷ rs) b i a h =
    elim (either (is_on p (record { from = q; to = r })) (list_any (is_on p) (edges_from r rs)) h) [
      | inl on ↦ segment_in_box p q r b i a.0 (IsInBox-on p (record { from = q; to = r }) on)
      | inr more ↦ on_in_box p r rs b a.0 a.1 more
    ]

pub within_in_box : (p : Point) (ring : List Point) (b : Bounds) → is_closed ring ≡ true → AllByRecursion (λ r. IsInBox r b) ring →
    is_within p ring ≡ true → IsInBox p b
unfolding is_within is_on_ring is_round
within_in_box p [] b closed a h = cc
within_in_box p (q ∷ qs) b closed a h =
    elim (either (list_any (is_on p) (edges_from q qs)) (is_odd (count_by (is_crossed p) (edges_from q qs))) h) [
      | inl on ↦ on_in_box p q qs b a.0 a.1 on
      | inr odd ↦ round_in_box p q qs b closed a.0 a.1 odd
    ]
