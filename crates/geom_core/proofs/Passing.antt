-- Where a point lies in a ring, from where it lies in the ring's blocks.
use Rattle.std.proofs.Common.{◌≡◌, ℕ, ◌+◌, ◌*◌, ◌-◌, ◌<◌, ◌≤◌, ◌<ℤ◌, suc, zero, min, Bool, true, false, not, ◌||◌, cond, int_lt, inl, inr, List, [], ◌∷◌, ◌++◌, length, take, drop, get_or, ap, ◌∙◌, sym, refl, arith}
use mathlib.Core.Bool.{beq}
use Rattle.std.proofs.lemmas.Int.{ints}
use Rattle.std.proofs.lemmas.List.{drop-drop, drop_all, take_all, length-drop, length-take}
use Rattle.std.proofs.lemmas.List.Sums.{sum_by-append}
use Rattle.std.proofs.lemmas.List.Folds.{list_any-append}
use Rattle.std.specs.List.{count_by, list_any, AllByRecursion}
use Rattle.geom_core.specs.Plane.{Point, Bounds, IsInBox, least_box}
use Rattle.geom_core.specs.Segments.{is_on}
use Rattle.geom_core.specs.Rings.{edges_from, edges, is_crossed, is_odd, is_on_ring, is_round}
use Rattle.geom_core.specs.Shapes.{last_of}
use Rattle.geom_core.specs.Places.{place_of}
use Rattle.geom_core.specs.Blocks.{block_at, is_clear}
use Rattle.geom_core.specs.declared.placing.Place.TheVariants.{On, Within, Outside}
use Rattle.geom_core.proofs.Both.{either, not_true}
use Rattle.geom_core.proofs.Areas.{on-is, placed-within, placed-outside}
use Rattle.geom_core.proofs.Closing.{last_of-read}
use Rattle.geom_core.proofs.Least.{least-holds}
use Rattle.geom_core.proofs.Enclosed.{xor, is_odd-suc, on_in_box, none-crossed, parity-left, crossed-right, crossed-under, crossed-over, each}

-- The edges of a ring are those of its first points, and those from there on.
edges-split : (n : ℕ) (ps : List Point) → edges ps ≡ edges (take (suc n) ps) ++ edges (drop n ps)
edges-split n [] = empty n
  where
    empty : (n : ℕ) → [] ≡ edges (take (suc n) []) ++ edges (drop n [])
    empty zero = refl
    empty (suc n) = refl
edges-split zero (p ∷ ps) = refl
edges-split (suc n) (p ∷ []) = single n
  where
    single : (n : ℕ) → [] ≡ edges (take (suc n) []) ++ edges (drop n [])
    single zero = refl
    single (suc n) = refl
edges-split (suc n) (p ∷ q ∷ qs) = ap (λ es. (record { from = p; to = q }) ∷ es) (edges-split n (q ∷ qs))

-- No edge of the first k blocks holds p, and `odd` says whether an odd number of their edges is crossed.
pub record BlocksPassed (p : Point) (ring : List Point) (k : ℕ) (odd : Bool) : Type 0 where
  pub on : is_on_ring p ring ≡ is_on_ring p (drop (64 * k) ring)
  pub round : is_round p ring ≡ xor odd (is_round p (drop (64 * k) ring))

pub BlocksPassed-start : (p : Point) (ring : List Point) → BlocksPassed p ring 0 false
BlocksPassed-start p ring = record { on = refl; round = refl }

-- The rest of a ring after its next block.
further : (ring : List Point) (k : ℕ) → drop 64 (drop (64 * k) ring) ≡ drop (64 * (k + 1)) ring
further ring k = drop-drop 64 (64 * k) ring ∙ ap (λ n. drop n ring) (omega arith)

-- The rest of a ring by its next block and what follows.
on-next : (p : Point) (ring : List Point) (k : ℕ) →
    is_on_ring p (drop (64 * k) ring) ≡ (is_on_ring p (block_at k ring) || is_on_ring p (drop (64 * (k + 1)) ring))
unfolding is_on_ring
on-next p ring k =
    ap (list_any (is_on p)) (edges-split 64 (drop (64 * k) ring))
    ∙ (list_any-append (is_on p) (edges (block_at k ring)) (edges (drop 64 (drop (64 * k) ring)))
    ∙ ap (λ rest. list_any (is_on p) (edges (block_at k ring)) || list_any (is_on p) (edges rest)) (further ring k))

odd-sum : (m n : ℕ) → is_odd (m + n) ≡ xor (is_odd m) (is_odd n)
odd-sum zero n = ap is_odd (omega arith)
odd-sum (suc m) n =
    let e : suc m + n ≡ 1 + (m + n) = omega arith in
    let f : suc m ≡ 1 + m = omega arith in
    ap is_odd e ∙ (is_odd-suc (m + n) ∙ (ap not (odd-sum m n)
    ∙ (turned (is_odd m) (is_odd n) ∙ ap (λ b. xor b (is_odd n)) (sym (ap is_odd f ∙ is_odd-suc m)))))
  where
    turned : (a b : Bool) → not (xor a b) ≡ xor (not a) b
    turned true true = refl
    turned true false = refl
    turned false b = refl

round-next : (p : Point) (ring : List Point) (k : ℕ) →
    is_round p (drop (64 * k) ring) ≡ xor (is_round p (block_at k ring)) (is_round p (drop (64 * (k + 1)) ring))
unfolding is_round
round-next p ring k =
    ap (λ es. is_odd (count_by (is_crossed p) es)) (edges-split 64 (drop (64 * k) ring))
    ∙ (ap is_odd (sum_by-append (λ s. cond (is_crossed p s) 1 0) (edges (block_at k ring)) (edges (drop 64 (drop (64 * k) ring))))
    ∙ (odd-sum (count_by (is_crossed p) (edges (block_at k ring))) (count_by (is_crossed p) (edges (drop 64 (drop (64 * k) ring))))
    ∙ ap (λ rest. xor (is_odd (count_by (is_crossed p) (edges (block_at k ring)))) (is_odd (count_by (is_crossed p) (edges rest)))) (further ring k)))

xor-turned : (a b : Bool) → xor a (xor true b) ≡ xor (not a) b
xor-turned true true = refl
xor-turned true false = refl
xor-turned false true = refl
xor-turned false false = refl

-- What the tests of a block's place are.
within-tests : (p : Point) (ring : List Point) → Within ≡ place_of p ring → (is_on_ring p ring ≡ false) × (is_round p ring ≡ true)
unfolding place_of
within-tests p ring e = placed-within (is_on_ring p ring) (is_round p ring) e

outside-tests : (p : Point) (ring : List Point) → Outside ≡ place_of p ring → (is_on_ring p ring ≡ false) × (is_round p ring ≡ false)
unfolding place_of
outside-tests p ring e = placed-outside (is_on_ring p ring) (is_round p ring) e

pub BlocksPassed-within : (p : Point) (ring : List Point) (k : ℕ) (round : Bool) → BlocksPassed p ring k round →
    Within ≡ place_of p (block_at k ring) → BlocksPassed p ring (k + 1) (not round)
BlocksPassed-within p ring k round w e =
    let t = within-tests p (block_at k ring) e in
    record {
      on = w.on ∙ (on-next p ring k ∙ ap (λ b. b || is_on_ring p (drop (64 * (k + 1)) ring)) t.0);
      round = w.round ∙ (ap (xor round) (round-next p ring k ∙ ap (λ b. xor b (is_round p (drop (64 * (k + 1)) ring))) t.1)
          ∙ xor-turned round (is_round p (drop (64 * (k + 1)) ring)));
    }

pub BlocksPassed-outside : (p : Point) (ring : List Point) (k : ℕ) (round : Bool) → BlocksPassed p ring k round →
    Outside ≡ place_of p (block_at k ring) → BlocksPassed p ring (k + 1) round
BlocksPassed-outside p ring k round w e =
    let t = outside-tests p (block_at k ring) e in
    record {
      on = w.on ∙ (on-next p ring k ∙ ap (λ b. b || is_on_ring p (drop (64 * (k + 1)) ring)) t.0);
      round = w.round ∙ ap (xor round) (round-next p ring k ∙ ap (λ b. xor b (is_round p (drop (64 * (k + 1)) ring))) t.1);
    }

pub on_block : (p : Point) (ring : List Point) (k : ℕ) (round : Bool) → BlocksPassed p ring k round →
    On ≡ place_of p (block_at k ring) → On ≡ place_of p ring
unfolding place_of
on_block p ring k round w e =
    let found : is_on_ring p ring ≡ true =
    w.on ∙ (on-next p ring k ∙ ap (λ b. b || is_on_ring p (drop (64 * (k + 1)) ring)) (on-is p (block_at k ring) e)) in
    rw found refl

at_end : (p : Point) (ring : List Point) (k : ℕ) (round : Bool) → length ring ≤ 64 * k → BlocksPassed p ring k round →
    (is_on_ring p ring ≡ false) × (is_round p ring ≡ round)
unfolding is_on_ring is_round
at_end p ring k round h w =
    let none : drop (64 * k) ring ≡ [] = drop_all (64 * k) ring h in (
      w.on ∙ ap (λ rest. list_any (is_on p) (edges rest)) none,
      w.round ∙ (ap (λ rest. xor round (is_odd (count_by (is_crossed p) (edges rest)))) none ∙ kept round),
    )
  where
    kept : (b : Bool) → xor b false ≡ b
    kept true = refl
    kept false = refl

pub within_blocks : (p : Point) (ring : List Point) (k : ℕ) (round : Bool) → length ring ≤ 64 * k → BlocksPassed p ring k round →
    round ≡ true → Within ≡ place_of p ring
unfolding place_of
within_blocks p ring k round h w e = let t = at_end p ring k round h w in rw (t.0, t.1, e) refl

pub outside_blocks : (p : Point) (ring : List Point) (k : ℕ) (round : Bool) → length ring ≤ 64 * k → BlocksPassed p ring k round →
    round ≡ false → Outside ≡ place_of p ring
unfolding place_of
outside_blocks p ring k round h w e = let t = at_end p ring k round h w in rw (t.0, t.1, e) refl

-- A block whose box does not hold a point.
holds : (ps : List Point) (b : Bounds) → b ≡ least_box ps → AllByRecursion (λ q. IsInBox q b) ps
holds ps b e = rw e (least-holds ps)

not_on : (p : Point) (ps : List Point) (b : Bounds) → b ≡ least_box ps → (IsInBox p b → ⊥) → is_on_ring p ps ≡ false
unfolding is_on_ring
not_on p [] b e off = refl
not_on p (q ∷ qs) b e off =
    let a = holds (q ∷ qs) b e in
    not_true (list_any (is_on p) (edges_from q qs)) (λ h. off (on_in_box p q qs b a.0 a.1 h))

none_round : (p : Point) (ps : List Point) (P : Point → Type 0) → ((q r : Point) → P q → P r → is_crossed p (record { from = q; to = r }) ≡ false) →
    AllByRecursion P ps → is_round p ps ≡ false
unfolding is_round
none_round p [] P f a = refl
none_round p (q ∷ qs) P f a = ap is_odd (none-crossed p P f q qs a.0 a.1)

outside_from : (p : Point) (ps : List Point) → is_on_ring p ps ≡ false → is_round p ps ≡ false → Outside ≡ place_of p ps
unfolding place_of
outside_from p ps e f = rw (e, f) refl

within_from : (p : Point) (ps : List Point) → is_on_ring p ps ≡ false → is_round p ps ≡ true → Within ≡ place_of p ps
unfolding place_of
within_from p ps e f = rw (e, f) refl

pub place_clear : (p : Point) (ps : List Point) (b : Bounds) → b ≡ least_box ps → is_clear p b ≡ true → Outside ≡ place_of p ps
place_clear p ps b e h = elim (either (int_lt b.high.x p.x) (int_lt p.y b.low.y || int_lt b.high.y p.y) h) [
  | inl right ↦ outside_from p ps (not_on p ps b e (λ i. past p b right i))
      (none_round p ps (λ r. r.x <ℤ p.x) (crossed-right p) (each (λ r. IsInBox r b) (λ r. r.x <ℤ p.x) (λ r j. after p r b right j) ps (holds ps b e)))
  | inr level ↦ elim (either (int_lt p.y b.low.y) (int_lt b.high.y p.y) level) [
    | inl low ↦ outside_from p ps (not_on p ps b e (λ i. beneath p b low i))
        (none_round p ps (λ r. p.y <ℤ r.y) (crossed-under p) (each (λ r. IsInBox r b) (λ r. p.y <ℤ r.y) (λ r j. under p r b low j) ps (holds ps b e)))
    | inr high ↦ outside_from p ps (not_on p ps b e (λ i. above p b high i))
        (none_round p ps (λ r. r.y <ℤ p.y) (crossed-over p) (each (λ r. IsInBox r b) (λ r. r.y <ℤ p.y) (λ r j. over p r b high j) ps (holds ps b e)))
  ]
]
  where
    past : (p : Point) (b : Bounds) → int_lt b.high.x p.x ≡ true → IsInBox p b → ⊥
    past p b h i = omega (arith, ints)

    beneath : (p : Point) (b : Bounds) → int_lt p.y b.low.y ≡ true → IsInBox p b → ⊥
    beneath p b h i = omega (arith, ints)

    above : (p : Point) (b : Bounds) → int_lt b.high.y p.y ≡ true → IsInBox p b → ⊥
    above p b h i = omega (arith, ints)

    after : (p r : Point) (b : Bounds) → int_lt b.high.x p.x ≡ true → IsInBox r b → r.x <ℤ p.x
    after p r b h i = omega (arith, ints)

    under : (p r : Point) (b : Bounds) → int_lt p.y b.low.y ≡ true → IsInBox r b → p.y <ℤ r.y
    under p r b h i = omega (arith, ints)

    over : (p r : Point) (b : Bounds) → int_lt b.high.y p.y ≡ true → IsInBox r b → r.y <ℤ p.y
    over p r b h i = omega (arith, ints)

-- A block to greater x of the point.
left_tests : (p : Point) (ps : List Point) (b : Bounds) (first last : Point) → b ≡ least_box ps → p.x <ℤ b.low.x → 0 < length ps →
    first ≡ get_or ps 0 first → last ≡ get_or ps (length ps - 1) last →
    (is_on_ring p ps ≡ false) × (is_round p ps ≡ xor (int_lt p.y first.y) (int_lt p.y last.y))
unfolding is_round
left_tests p [] b first last e h some f g = absurd (omega arith)
left_tests p (q ∷ qs) b first last e h some f g =
    let a = holds (q ∷ qs) b e in
    let shorter : suc (length qs) - 1 ≡ length qs = omega arith in
    let end : last ≡ last_of q qs = (g ∙ ap (λ k. get_or (q ∷ qs) k last) shorter) ∙ last_of-read q qs last in (
      not_on p (q ∷ qs) b e (λ i. before p b h i),
      parity-left p q qs (left p q b h a.0) (each (λ r. IsInBox r b) (λ r. p.x <ℤ r.x) (λ r j. left p r b h j) qs a.1)
          ∙ (ap (λ (r : Point). xor (int_lt p.y r.y) (int_lt p.y (last_of q qs).y)) (sym f) ∙ ap (λ (r : Point). xor (int_lt p.y first.y) (int_lt p.y r.y)) (sym end)),
    )
  where
    before : (p : Point) (b : Bounds) → p.x <ℤ b.low.x → IsInBox p b → ⊥
    before p b h i = omega (arith, ints)

    left : (p r : Point) (b : Bounds) → p.x <ℤ b.low.x → IsInBox r b → p.x <ℤ r.x
    left p r b h i = omega (arith, ints)

pub place_beside : (p : Point) (ps : List Point) (b : Bounds) (first last : Point) (starts ends : Bool) → b ≡ least_box ps → int_lt p.x b.low.x ≡ true → 0 < length ps →
    first ≡ get_or ps 0 first → last ≡ get_or ps (length ps - 1) last →
    starts ≡ int_lt p.y first.y → ends ≡ int_lt p.y last.y → beq starts ends ≡ true → Outside ≡ place_of p ps
place_beside p ps b first last starts ends e h some f g s t same =
    let tests = left_tests p ps b first last e (omega (arith, ints)) some f g in
    outside_from p ps tests.0 (tests.1 ∙ rw (← s, ← t) (alike starts ends same))
  where
    alike : (x y : Bool) → beq x y ≡ true → xor x y ≡ false
    alike true true n = refl
    alike true false n = cc
    alike false true n = cc
    alike false false n = refl

pub place_between : (p : Point) (ps : List Point) (b : Bounds) (first last : Point) (starts ends : Bool) → b ≡ least_box ps → int_lt p.x b.low.x ≡ true → 0 < length ps →
    first ≡ get_or ps 0 first → last ≡ get_or ps (length ps - 1) last →
    starts ≡ int_lt p.y first.y → ends ≡ int_lt p.y last.y → beq starts ends ≡ false → Within ≡ place_of p ps
place_between p ps b first last starts ends e h some f g s t differ =
    let tests = left_tests p ps b first last e (omega (arith, ints)) some f g in
    within_from p ps tests.0 (tests.1 ∙ rw (← s, ← t) (unlike starts ends differ))
  where
    unlike : (x y : Bool) → beq x y ≡ false → xor x y ≡ true
    unlike true true n = cc
    unlike true false n = refl
    unlike false true n = refl
    unlike false false n = cc

-- The block of a ring as a slice of it.
take_min : (n : ℕ) (xs : List Point) → take (min n (length xs)) xs ≡ take n xs
take_min zero xs = let e : min zero (length xs) ≡ zero = omega arith in ap (λ m. take m xs) e
take_min (suc n) [] = take_all (min (suc n) (length {A = Point} [])) [] (omega arith)
take_min (suc n) (x ∷ xs) =
    let e : min (suc n) (suc (length xs)) ≡ suc (min n (length xs)) = omega arith in
    ap (λ m. take m (x ∷ xs)) e ∙ ap (λ ys. x ∷ ys) (take_min n xs)

pub block_at-read : (ring : List Point) (k end : ℕ) → end ≡ min (length ring) (64 * k + 65) → 64 * k < length ring →
    take (end - 64 * k) (drop (64 * k) ring) ≡ block_at k ring
block_at-read ring k end e h =
    let n : length (drop (64 * k) ring) ≡ length ring - 64 * k = length-drop (64 * k) ring in
    let f : end - 64 * k ≡ min 65 (length (drop (64 * k) ring)) = omega (arith, e, n, h) in
    ap (λ m. take m (drop (64 * k) ring)) f ∙ take_min 65 (drop (64 * k) ring)

pub block_at-many : (ring : List Point) (k : ℕ) → length (block_at k ring) < 66
block_at-many ring k = omega (arith, length-take 65 (drop (64 * k) ring))
