-- The verdicts on parts, one part after the other.
use Rattle.std.proofs.Common.{◌≡◌, ℕ, ◌+◌, ◌<◌, ◌≤◌, List, [], ◌∷◌, ◌++◌, length, get_or, drop, map, Result, Ok, Err, refl, sym, ◌∙◌}
use Rattle.std.specs.List.{flat_map}
use Rattle.std.proofs.lemmas.List.{drop_more, at_drop_all}
use Rattle.std.proofs.lemmas.List.Folds.{flat_map-map}
use Rattle.wfs_ends.specs.Read.{◌>>=◌, each}

after : {E A B : Type 0} (step : A → B → Result A E) (xs ys : List B) → ((found : A) → each step found (xs ++ ys) ≡ (each step found xs >>= λ more. each step more ys)) → (r : Result A E) → (r >>= λ more. each step more (xs ++ ys)) ≡ ((r >>= λ more. each step more xs) >>= λ more. each step more ys)
after step xs ys same (Ok found) = same found
after step xs ys same (Err e) = refl

each_append : {E A B : Type 0} (step : A → B → Result A E) (found : A) (xs ys : List B) → each step found (xs ++ ys) ≡ (each step found xs >>= λ more. each step more ys)
unfolding each
each_append step found [] ys = refl
each_append step found (x ∷ xs) ys = after step xs ys (λ more. each_append step more xs ys) (step found x)

-- the next part, and behind the last
pub part_turn : {E A B X : Type 0} (step : A → B → Result A E) (g : X → List B) (found : A) (xs : List X) (i : ℕ) (x : X) → i < length xs → x ≡ get_or xs i x → each step found (flat_map g (drop i xs)) ≡ (each step found (g x) >>= λ more. each step more (flat_map g (drop (i + 1) xs)))
part_turn step g found xs i x lt is = rw (drop_more xs i x lt, ← is) (each_append step found (g x) (flat_map g (drop (i + 1) xs)))

pub part_end : {E A B X : Type 0} (step : A → B → Result A E) (g : X → List B) (found : A) (xs : List X) (i : ℕ) → length xs ≤ i → each step found (flat_map g (drop i xs)) ≡ Ok found
unfolding each
part_end step g found xs i le = at_drop_all (λ ys. each step found (flat_map g ys)) xs i le

-- behind a part without a fault, and at one with a fault
pub part_goes_on : {E A B X : Type 0} (step : A → B → Result A E) (g : X → List B) (found more : A) (xs : List X) (i : ℕ) (x : X) (total : Result A E) → i < length xs → x ≡ get_or xs i x → each step found (g x) ≡ Ok more → each step found (flat_map g (drop i xs)) ≡ total → each step more (flat_map g (drop (i + 1) xs)) ≡ total
part_goes_on step g found more xs i x total lt is now so_far = sym (part_turn step g found xs i x lt is ∙ rw now refl) ∙ so_far

pub part_fails : {E A B X : Type 0} (step : A → B → Result A E) (g : X → List B) (found : A) (xs : List X) (i : ℕ) (x : X) (total : Result A E) (e : E) → i < length xs → x ≡ get_or xs i x → each step found (g x) ≡ Err e → each step found (flat_map g (drop i xs)) ≡ total → Err e ≡ total
part_fails step g found xs i x total e lt is now so_far = sym (part_turn step g found xs i x lt is ∙ rw now refl) ∙ so_far

ends : {E A : Type 0} (r : Result A E) → (r >>= λ more. Ok more) ≡ r
ends (Ok more) = refl
ends (Err e) = refl

pub one_verdict : {E A B : Type 0} (step : A → B → Result A E) (found : A) (x : B) → each step found (x ∷ []) ≡ step found x
unfolding each
one_verdict step found x = ends (step found x)

pub first_verdict : {E A B : Type 0} (step : A → B → Result A E) (found : A) (x : B) (xs : List B) → each step found (x ∷ xs) ≡ (step found x >>= λ more. each step more xs)
unfolding each
first_verdict step found x xs = refl

-- behind a first one without a fault
pub behind_first : {E A B X : Type 0} (step : A → B → Result A E) (g : X → List B) (found more : A) (first : B) (xs : List X) → step found first ≡ Ok more → each step found (first ∷ flat_map (λ part. part) (map g xs)) ≡ each step more (flat_map g xs)
behind_first step g found more first xs now = first_verdict step found first (flat_map (λ part. part) (map g xs)) ∙ rw (now, flat_map-map) refl

pub first_fails : {E A B : Type 0} (step : A → B → Result A E) (found : A) (first : B) (xs : List B) (e : E) → step found first ≡ Err e → Err e ≡ each step found (first ∷ xs)
first_fails step found first xs e now = sym (first_verdict step found first xs ∙ rw now refl)
