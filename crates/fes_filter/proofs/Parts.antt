-- Loops over the parts of an operator that stop early.
use Rattle.std.proofs.Common.{◌≡◌, ℕ, ◌<◌, ◌≤◌, Bool, true, false, ◌||◌, List, [], ◌∷◌, length, get_or, take, map, refl, sym, ap, ◌∙◌}
use Rattle.std.specs.Prelude.{Result, Ok, Err, OnErr}
use Rattle.std.specs.List.{list_all, list_any}
use Rattle.std.proofs.lemmas.List.{take_all}
use Rattle.std.proofs.lemmas.List.Folds.{list_any_at, list_all_at, list_all-map}

all_of : {X : Type 0} (g : X → Bool) (xs : List X) → list_all (λ part. part) (map g xs) ≡ list_all g xs
all_of g xs = list_all-map (λ part. part) g xs

any_of : {X : Type 0} (g : X → Bool) (xs : List X) → list_any (λ part. part) (map g xs) ≡ list_any g xs
any_of g [] = refl
any_of g (x ∷ xs) = ap (λ b. g x || b) (any_of g xs)

pub all_end : {X : Type 0} (g : X → Bool) (xs : List X) (i : ℕ) → length xs ≤ i → list_all g (take i xs) ≡ true → list_all (λ part. part) (map g xs) ≡ true
all_end g xs i le h = all_of g xs ∙ ap (list_all g) (sym (take_all i xs le)) ∙ h

pub any_end : {X : Type 0} (g : X → Bool) (xs : List X) (i : ℕ) → length xs ≤ i → list_any g (take i xs) ≡ false → list_any (λ part. part) (map g xs) ≡ false
any_end g xs i le h = any_of g xs ∙ ap (list_any g) (sym (take_all i xs le)) ∙ h

pub any_at : {X : Type 0} (g : X → Bool) (xs : List X) (i : ℕ) (x : X) → i < length xs → x ≡ get_or xs i x → g x ≡ true → list_any (λ part. part) (map g xs) ≡ true
any_at g xs i x lt is h = any_of g xs ∙ list_any_at g xs i x lt (ap g (sym is) ∙ h)

pub all_at : {X : Type 0} (g : X → Bool) (xs : List X) (i : ℕ) (x : X) → i < length xs → x ≡ get_or xs i x → g x ≡ false → list_all (λ part. part) (map g xs) ≡ false
all_at g xs i x lt is h = all_of g xs ∙ list_all_at g xs i x lt (ap g (sym is) ∙ h)

-- a fact about any fault
pub on_any : {T E P : Type 0} (r : Result T E) → P → OnErr r P
on_any (Ok x) p = tt
on_any (Err e) p = p
