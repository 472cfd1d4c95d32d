-- The first of a list, with others in the place of those that it lacks.
use Rattle.std.proofs.Common.{◌≡◌, ℕ, zero, suc, ◌+◌, List, [], ◌∷◌, ◌++◌, length, take, drop, map, get_or, replicate, refl, sym, ap, ◌∙◌, arith, append_assoc, length-append}
use Rattle.std.specs.List.{All}
use Rattle.std.proofs.lemmas.Grind.{common_steps, replicate_next}
use Rattle.std.proofs.lemmas.List.{take_more, take-append-le, length-replicate, length-take, map-append, take-map, drop-drop}
use Rattle.std.proofs.lemmas.List.Elements.{All-take, All-append, All-replicate}
use Rattle.service_doors.specs.Listening.{first_of}

-- past a list stands the default
same_read : {X : Type 0} (xs : List X) (none : X) (n i : ℕ) → get_or (xs ++ replicate n none) i none ≡ get_or (drop i xs) 0 none
same_read xs none n i = grind (arith, common_steps)

same_front : {X : Type 0} (xs : List X) (none : X) (i : ℕ) → take i (xs ++ replicate (i + 1) none) ≡ first_of none i xs
same_front xs none i =
    ap (λ (t : List _). take i (xs ++ t)) (replicate_next i none)
    ∙ ap (take i) (sym (append_assoc xs (replicate i none) (none ∷ [])))
    ∙ take-append-le i (xs ++ replicate i none) (none ∷ []) (omega (arith, length-append xs (replicate i none), length-replicate i none))

pub first_more : {X : Type 0} (none : X) (i : ℕ) (xs : List X) → first_of none (i + 1) xs ≡ first_of none i xs ++ get_or (drop i xs) 0 none ∷ []
first_more none i xs =
    take_more (xs ++ replicate (i + 1) none) i none (omega (arith, length-append xs (replicate (i + 1) none), length-replicate (i + 1) none))
    ∙ ap (λ (t : List _). t ++ get_or (xs ++ replicate (i + 1) none) i none ∷ []) (same_front xs none i)
    ∙ ap (λ x. first_of none i xs ++ x ∷ []) (same_read xs none (i + 1) i)

pub length_first : {X : Type 0} (none : X) (n : ℕ) (xs : List X) → length (first_of none n xs) ≡ n
length_first none n xs = omega (arith, length-take n (xs ++ replicate n none), length-append xs (replicate n none), length-replicate n none)

map_replicate : {X Y : Type 0} (f : X → Y) (x : X) (n : ℕ) → map f (replicate n x) ≡ replicate n (f x)
map_replicate f x zero = refl
map_replicate f x (suc n) = ap (λ (t : List _). f x ∷ t) (map_replicate f x n)

pub map_first : {X Y : Type 0} (f : X → Y) (none : X) (n : ℕ) (xs : List X) → map f (first_of none n xs) ≡ first_of (f none) n (map f xs)
map_first f none n xs =
    sym (take-map f n (xs ++ replicate n none))
    ∙ ap (take n) (map-append f xs (replicate n none) ∙ ap (λ (t : List _). map f xs ++ t) (map_replicate f none n))

pub all_first : {X : Type 0} (P : X → Type 0) (none : X) (n : ℕ) (xs : List X) → P none → All P xs → All P (first_of none n xs)
all_first P none n xs here all = All-take P n (xs ++ replicate n none) (All-append P xs (replicate n none) all (All-replicate P n none here))

pub drop_one_more : {X : Type 0} (i : ℕ) (xs : List X) → drop 1 (drop i xs) ≡ drop (i + 1) xs
drop_one_more i xs = drop-drop 1 i xs
