-- How many steps a selection takes at most.
use Rattle.std.proofs.Common.{◌≡◌, ℕ, suc, ◌+◌, ◌≤◌, Bool, true, false, cond, List, [], ◌∷◌, ◌++◌, length, filter, map, Option, Some, None, refl, sym, ap, ◌∙◌, arith}
use Rattle.feature_values.specs.declared.feature.Feature.{Feature}
use Rattle.feature_values.specs.declared.feature.Rid.{Rid}
use Rattle.fes_filter.specs.View.{is_before, IsInOrder, feature_at, next_after}
use Rattle.query_core.specs.Finding.{start_of}
use Rattle.query_core.specs.Selecting.{held, to_list}
use Rattle.query_core.proofs.Walks.{behind, next_found}

-- ---- what is looked up

one_more : (found : Option Feature) (l : List Feature) (n : ℕ) → length l ≤ n → length (to_list found ++ l) ≤ suc n
one_more None l n le = omega (arith, le)
one_more (Some f) l n le = omega (arith, le)

held_few : (features : List Feature) (ids : List Rid) → length (held features ids) ≤ length ids
unfolding held
held_few features [] = omega arith
held_few features (id ∷ ids) = one_more (feature_at id features) (held features ids) (length ids) (held_few features ids)

same_length : {X : Type 0} (now : X → Feature) (found : List X) → length (map now found) ≡ length found
same_length now [] = refl
same_length now (x ∷ found) = ap suc (same_length now found)

pub found_few : {X : Type 0} (now : X → Feature) (features : List Feature) (ids : List Rid) (found : List X) → map now found ≡ held features ids → length found ≤ length ids
found_few now features ids found is = omega (arith, held_few features ids, ap length is, same_length now found)

-- ---- what is kept of a list

kept_few_at : {X : Type 0} (b : Bool) (x : X) (kept xs : List X) → length kept ≤ length xs → length (cond b (x ∷ kept) kept) ≤ suc (length xs)
kept_few_at true x kept xs le = omega (arith, le)
kept_few_at false x kept xs le = omega (arith, le)

pub kept_few : {X : Type 0} (p : X → Bool) (xs : List X) → length (filter p xs) ≤ length xs
kept_few p [] = omega arith
kept_few p (x ∷ xs) = kept_few_at (p x) x (filter p xs) xs (kept_few p xs)

-- ---- walks

-- a step for each feature that passes a test and stands up to a place
abbrev pub Counted : (Feature → Bool) → List Feature → Option Rid → ℕ → ℕ → Type 0
Counted test features after start now = now + length (filter test (behind after features)) ≤ start + length (filter test features)

filter_few_at : (p q : Feature → Bool) (f : Feature) (kept all : List Feature) (b c : Bool) → q f ≡ b → p f ≡ c → length (filter p kept) ≤ length all → length (filter p (cond b (f ∷ kept) kept)) ≤ length (cond c (f ∷ all) all)
filter_few_at p q f kept all true true is at le = rw at (omega (arith, le))
filter_few_at p q f kept all true false is at le = rw at le
filter_few_at p q f kept all false true is at le = omega (arith, le)
filter_few_at p q f kept all false false is at le = le

filter_few : (p q : Feature → Bool) (fs : List Feature) → length (filter p (filter q fs)) ≤ length (filter p fs)
filter_few p q [] = omega arith
filter_few p q (f ∷ fs) = filter_few_at p q f (filter q fs) (filter p fs) (q f) (p f) refl refl (filter_few p q fs)

behind_few : (test : Feature → Bool) (features : List Feature) (after : Option Rid) → length (filter test (behind after features)) ≤ length (filter test features)
behind_few test features None = omega arith
behind_few test features (Some id) = filter_few test (λ f. is_before id f.id) features

pub count_begins : (test : Feature → Bool) (features : List Feature) (after : Option Rid) (start : ℕ) → Counted test features after start start
count_begins test features after start = omega (arith, behind_few test features after)

count_at : (test : Feature → Bool) (f : Feature) (rest : List Feature) (b : Bool) → test f ≡ b → length (filter test (f ∷ rest)) ≡ cond b 1 0 + length (filter test rest)
count_at test f rest true is = rw is (omega arith)
count_at test f rest false is = rw is (omega arith)

pub count_goes_on : (test : Feature → Bool) (features : List Feature) (after : Option Rid) (f : Feature) (start now more : ℕ) → IsInOrder features → Some f ≡ next_after after features → more ≤ now + cond (test f) 1 0 → Counted test features after start now → Counted test features (Some f.id) start more
count_goes_on test features after f start now more order at few so_far =
    omega (arith, few, so_far, ap (λ l. length (filter test l)) (next_found after features f order at), count_at test f (behind (Some f.id) features) (test f) refl)
