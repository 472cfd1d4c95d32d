-- Texts that read as all kinds of some parts.
use Rattle.std.proofs.Common.{◌≡◌, ℕ, ◌<◌, ◌≤◌, Bool, true, false, ◌&&◌, List, [], ◌∷◌, ◌++◌, length, get_or, take, map, refl, sym, ap, ◌∙◌}
use Rattle.std.specs.Prelude.{flat_map}
use Rattle.std.specs.List.{list_all}
use Rattle.std.proofs.lemmas.List.{take_all}
use Rattle.std.proofs.lemmas.List.Folds.{list_all_at, list_all-append}

pub all_in : {X Y : Type 0} (p : Y → Bool) (f : X → List Y) (xs : List X) → list_all p (flat_map f xs) ≡ list_all (λ x. list_all p (f x)) xs
all_in p f [] = refl
all_in p f (x ∷ xs) = list_all-append p (f x) (flat_map f xs) ∙ ap (λ b. list_all p (f x) && b) (all_in p f xs)

of_parts : {X Y : Type 0} (f : X → List Y) (xs : List X) → flat_map (λ part. part) (map f xs) ≡ flat_map f xs
of_parts f [] = refl
of_parts f (x ∷ xs) = ap (λ l. f x ++ l) (of_parts f xs)

pub some_fails : {X Y : Type 0} (p : Y → Bool) (f : X → List Y) (xs : List X) (i : ℕ) (x : X) → i < length xs → x ≡ get_or xs i x → list_all p (f x) ≡ false → list_all p (flat_map f xs) ≡ false
some_fails p f xs i x lt is h = all_in p f xs ∙ list_all_at (λ x. list_all p (f x)) xs i x lt (ap (λ x. list_all p (f x)) (sym is) ∙ h)

pub all_hold : {X Y : Type 0} (p : Y → Bool) (f : X → List Y) (xs : List X) (i : ℕ) → length xs ≤ i → list_all (λ x. list_all p (f x)) (take i xs) ≡ true → list_all p (flat_map f xs) ≡ true
all_hold p f xs i le h = all_in p f xs ∙ ap (list_all (λ x. list_all p (f x))) (sym (take_all i xs le)) ∙ h

pub part_fails : {X Y : Type 0} (p : Y → Bool) (f : X → List Y) (xs : List X) (i : ℕ) (x : X) → i < length xs → x ≡ get_or xs i x → list_all p (f x) ≡ false → list_all p (flat_map (λ part. part) (map f xs)) ≡ false
part_fails p f xs i x lt is h = ap (list_all p) (of_parts f xs) ∙ some_fails p f xs i x lt is h

pub parts_hold : {X Y : Type 0} (p : Y → Bool) (f : X → List Y) (xs : List X) (i : ℕ) → length xs ≤ i → list_all (λ x. list_all p (f x)) (take i xs) ≡ true → list_all p (flat_map (λ part. part) (map f xs)) ≡ true
parts_hold p f xs i le h = ap (list_all p) (of_parts f xs) ∙ all_hold p f xs i le h
