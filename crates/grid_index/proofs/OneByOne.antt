-- Places of a box that are gone through one after another.
use Rattle.std.proofs.Common.{◌≡◌, ℕ, ◌+◌, ◌-◌, ◌<◌, ◌≤◌, Bool, true, false, cond, ◌&&◌, ◌||◌, List, [], ◌∷◌, ◌++◌, refl, sym, ap, subst, ◌∙◌, arith}
use Rattle.std.specs.Prelude.{suc}
use Rattle.geom_core.specs.Plane.{Bounds, IsUpright}
use Rattle.grid_index.specs.Counts.{one_if}
use Rattle.grid_index.specs.Near.{Placed}
use Rattle.grid_index.specs.Places.{Place, same_place, place_at, takes, taking, is_among_first}
use Rattle.grid_index.specs.Room.{places}
use Rattle.grid_index.proofs.SamePlace.{place_is}
use Rattle.grid_index.proofs.Covered.{all_places, new_place, first_of}

first_more : (i : ℕ) (at : ℕ → Place) (place : Place) → is_among_first (i + 1) at place ≡ (is_among_first i at place || same_place (at i) place)
first_more i at place = let one : i + 1 ≡ suc i = omega arith in rw one refl

-- a place that is gone through next was not gone through yet
apart : (b : Bounds) (i : ℕ) (q : Place) → i < places b → same_place (place_at b i) q ≡ true → is_among_first i (place_at b) q ≡ false
apart b i q lt same = subst (λ (p : Place). is_among_first i (place_at b) p ≡ false) (place_is (place_at b i) q same) (new_place b i lt)

-- how often a place was gone through
pub first_step : (b : Bounds) (i : ℕ) (q : Place) → i < places b → one_if (is_among_first (i + 1) (place_at b) q) ≡ one_if (is_among_first i (place_at b) q) + one_if (same_place (place_at b i) q)
first_step b i q lt = ap one_if (first_more i (place_at b) q) ∙ at (is_among_first i (place_at b) q) (same_place (place_at b i) q) (apart b i q lt)
  where
    at : (a s : Bool) → (s ≡ true → a ≡ false) → one_if (a || s) ≡ one_if a + one_if s
    at true true h = absurd (let bad = h refl in cc)
    at true false h = refl
    at false true h = refl
    at false false h = refl

pub takes_at : (b : Bounds) (i : ℕ) → IsUpright b → i < places b → takes b (place_at b i) ≡ true
takes_at b i up lt = sym (all_places b up (place_at b i)) ∙ first_of (places b) (place_at b) (place_at b i) i lt refl

-- ---- a pair comes

pub put_next : (old now next : Place → List Placed) (b : Bounds) (i : ℕ) (x : Placed) (place : Place) → i < places b → place ≡ place_at b i
    → ((q : Place) → now q ≡ cond (is_among_first i (place_at b) q) (old q ++ x ∷ []) (old q)) → ((q : Place) → next q ≡ cond (same_place place q) (now q ++ x ∷ []) (now q))
    → (q : Place) → next q ≡ cond (is_among_first (i + 1) (place_at b) q) (old q ++ x ∷ []) (old q)
put_next old now next b i x place lt at e f q =
    f q ∙ ap (λ (s : Place). cond (same_place s q) (now q ++ x ∷ []) (now q)) at
    ∙ step (is_among_first i (place_at b) q) (same_place (place_at b i) q) (apart b i q lt) (e q)
    ∙ ap (λ (w : Bool). cond w (old q ++ x ∷ []) (old q)) (sym (first_more i (place_at b) q))
  where
    step : (a s : Bool) → (s ≡ true → a ≡ false) → now q ≡ cond a (old q ++ x ∷ []) (old q) → cond s (now q ++ x ∷ []) (now q) ≡ cond (a || s) (old q ++ x ∷ []) (old q)
    step true true h was = absurd (let bad = h refl in cc)
    step true false h was = was
    step false true h was = ap (λ (xs : List Placed). xs ++ x ∷ []) was
    step false false h was = was

pub put_all : (old now : Place → List Placed) (b : Bounds) (i : ℕ) (x : Placed) → IsUpright b → i ≡ places b → ((q : Place) → now q ≡ cond (is_among_first i (place_at b) q) (old q ++ x ∷ []) (old q))
    → (q : Place) → now q ≡ cond (takes b q) (old q ++ x ∷ []) (old q)
put_all old now b i x up last e q =
    e q ∙ ap (λ (n : ℕ). cond (is_among_first n (place_at b) q) (old q ++ x ∷ []) (old q)) last ∙ ap (λ (w : Bool). cond w (old q ++ x ∷ []) (old q)) (all_places b up q)

-- room for it at the next place
pub room_here : (old now : Place → ℕ) (b : Bounds) (i : ℕ) (place : Place) → IsUpright b → i < places b → place ≡ place_at b i
    → ((q : Place) → taking q b ≤ old q) → ((q : Place) → old q ≤ now q + one_if (is_among_first i (place_at b) q)) → 1 ≤ now place
room_here old now b i place up lt at spare left = subst (λ (q : Place). 1 ≤ now q) (sym at)
    (let none = ap one_if (new_place b i lt) in let one = ap one_if (takes_at b i up lt) in omega (arith, none, one, spare (place_at b i), left (place_at b i)))

-- a place was counted as often as it was gone through
pub count_next : (b : Bounds) (i : ℕ) (place q : Place) (old now next : ℕ) → i < places b → place ≡ place_at b i → now ≡ old + one_if (is_among_first i (place_at b) q) → next ≡ now + one_if (same_place place q)
    → next ≡ old + one_if (is_among_first (i + 1) (place_at b) q)
count_next b i place q old now next lt at e f =
    let same = ap (λ (p : Place). one_if (same_place p q)) at in
    omega (arith, first_step b i q lt, same, e, f)

-- the room that was used
pub used_next : (b : Bounds) (i : ℕ) (place q : Place) (old now next : ℕ) → i < places b → place ≡ place_at b i → old ≤ now + one_if (is_among_first i (place_at b) q) → now ≤ next + one_if (same_place place q)
    → old ≤ next + one_if (is_among_first (i + 1) (place_at b) q)
used_next b i place q old now next lt at e f =
    let same = ap (λ (p : Place). one_if (same_place p q)) at in
    omega (arith, first_step b i q lt, same, e, f)

-- all places were gone through
pub first_all : (b : Bounds) (i : ℕ) (q : Place) → IsUpright b → i ≡ places b → one_if (is_among_first i (place_at b) q) ≡ taking q b
first_all b i q up last = ap (λ (n : ℕ). one_if (is_among_first n (place_at b) q)) last ∙ ap one_if (all_places b up q)

-- room was made at one more place
pub made_next : (b : Bounds) (i : ℕ) (place : Place) (now next : Place → ℕ) → i < places b → place ≡ place_at b i → ((q : Place) → one_if (is_among_first i (place_at b) q) ≤ now q) → ((q : Place) → now q ≤ next q) → 1 ≤ next place
    → (q : Place) → one_if (is_among_first (i + 1) (place_at b) q) ≤ next q
made_next b i place now next lt at e f one q =
    step (is_among_first i (place_at b) q) (same_place (place_at b i) q) refl (e q) (first_step b i q lt)
  where
    step : (a s : Bool) → same_place (place_at b i) q ≡ s → one_if a ≤ now q → one_if (is_among_first (i + 1) (place_at b) q) ≡ one_if a + one_if s → one_if (is_among_first (i + 1) (place_at b) q) ≤ next q
    step a true is was sum =
        let here : place ≡ q = at ∙ place_is (place_at b i) q is in
        let some : 1 ≤ next q = subst (λ (p : Place). 1 ≤ next p) here one in
        let least : one_if (is_among_first (i + 1) (place_at b) q) ≤ 1 = bound (is_among_first (i + 1) (place_at b) q) in
        omega (arith, some, least)
      where
        bound : (w : Bool) → one_if w ≤ 1
        bound true = omega arith
        bound false = omega arith
    step a false is was sum = let more = f q in omega (arith, was, sum, more)

-- ---- a pair goes

pub taken_next : (b : Bounds) (i : ℕ) (place q : Place) (same : Bool) (old now next : ℕ) → i < places b → place ≡ place_at b i → now ≡ old - one_if (is_among_first i (place_at b) q && same) → next ≡ now - one_if (same_place place q && same)
    → next ≡ old - one_if (is_among_first (i + 1) (place_at b) q && same)
taken_next b i place q same old now next lt at e f =
    let here = ap (λ (p : Place). one_if (same_place p q && same)) at in
    let more = ap (λ (w : Bool). one_if (w && same)) (first_more i (place_at b) q) in
    let sum = step (is_among_first i (place_at b) q) (same_place (place_at b i) q) same (apart b i q lt) in
    omega (arith, here, more, sum, e, f)
  where
    step : (a s n : Bool) → (s ≡ true → a ≡ false) → one_if ((a || s) && n) ≡ one_if (a && n) + one_if (s && n)
    step true true n h = absurd (let bad = h refl in cc)
    step true false true h = refl
    step true false false h = refl
    step false true true h = refl
    step false true false h = refl
    step false false n h = refl

pub taken_all : (b : Bounds) (i : ℕ) (q : Place) (same : Bool) (old now : ℕ) → IsUpright b → i ≡ places b → now ≡ old - one_if (is_among_first i (place_at b) q && same) → now ≡ old - one_if (takes b q && same)
taken_all b i q same old now up last e =
    e ∙ ap (λ (n : ℕ). old - one_if (is_among_first n (place_at b) q && same)) last ∙ ap (λ (w : Bool). old - one_if (w && same)) (all_places b up q)
