-- One element more of a list that a loop goes over.
use Rattle.std.proofs.Common.{◌≡◌, ℕ, ◌+◌, ◌<◌, ◌≤◌, List, length, get_or, take, drop, Result, Ok, Err, refl, sym, ap, ◌∙◌}
use Rattle.std.specs.Prelude.{All}
use Rattle.std.specs.List.{fold}
use Rattle.std.proofs.lemmas.List.{take_more, at_drop_more, at_drop_all}
use Rattle.std.proofs.lemmas.List.Sums.{fold_push}
use Rattle.wfs_ends.specs.Read.{◌>>=◌, each}

-- what holds of all holds of each
pub all_at : {X : Type 0} (P : X → Type 0) (xs : List X) (i : ℕ) (x : X) → All P xs → i < length xs → x ≡ get_or xs i x → P x
all_at P xs i x h lt is = rw is (h i x lt)

-- a fold over one element more
pub fold_more : {X Y : Type 0} (step : Y → X → Y) (y : Y) (xs : List X) (i : ℕ) (x : X) → i < length xs → x ≡ get_or xs i x → fold step y (take (i + 1) xs) ≡ step (fold step y (take i xs)) x
fold_more step y xs i x lt is = ap (fold step y) (take_more xs i x lt) ∙ fold_push step y (take i xs) (get_or xs i x) ∙ ap (step (fold step y (take i xs))) (sym is)

-- ---- from the front

pub each_on : {E A B : Type 0} (step : A → B → Result A E) (found : A) (xs : List B) (i : ℕ) (x : B) → i < length xs → x ≡ get_or xs i x → each step found (drop i xs) ≡ (step found x >>= λ more. each step more (drop (i + 1) xs))
unfolding each
each_on step found xs i x lt is = at_drop_more (each step found) xs i x lt ∙ ap (λ y. step found y >>= λ more. each step more (drop (i + 1) xs)) (sym is)

pub each_over : {E A B : Type 0} (step : A → B → Result A E) (found : A) (xs : List B) (i : ℕ) → length xs ≤ i → each step found (drop i xs) ≡ Ok found
unfolding each
each_over step found xs i le = at_drop_all (each step found) xs i le

pub each_goes : {E A B : Type 0} (step : A → B → Result A E) (found more : A) (xs : List B) (i : ℕ) (x : B) → i < length xs → x ≡ get_or xs i x → step found x ≡ Ok more → each step found (drop i xs) ≡ each step more (drop (i + 1) xs)
each_goes step found more xs i x lt is now = each_on step found xs i x lt is ∙ rw now refl

pub each_stops : {E A B : Type 0} (step : A → B → Result A E) (found : A) (xs : List B) (i : ℕ) (x : B) (e : E) → i < length xs → x ≡ get_or xs i x → step found x ≡ Err e → each step found (drop i xs) ≡ Err e
each_stops step found xs i x e lt is now = each_on step found xs i x lt is ∙ rw now refl
