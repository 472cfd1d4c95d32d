-- Identifiers, in order and each once: those of a list that are known, and those of two lists.
use Rattle.std.proofs.Common.{◌≡◌, ℕ, zero, suc, ◌+◌, ◌<◌, ◌≤◌, Bool, true, false, cond, ◌||◌, ◌&&◌, ◌==◌, List, [], ◌∷◌, ◌++◌, length, get_or, take, filter, IsPermutation, Some, None, refl, sym, ap, ◌∙◌, arith, append-nil, eqb-true}
use Rattle.std.specs.List.{flat_map, list_any, dedup, dedup_from}
use Rattle.std.specs.List.Sorted.{IsSorted, IsStrictlySortedBy}
use Rattle.std.specs.declared.cmp.Ordering.TheVariants.{Less}
use Rattle.std.specs.Ordering.{ordering_reverse, is_lt}
use Rattle.std.proofs.lemmas.Bool.{and_parts}
use Rattle.std.proofs.lemmas.List.Kept.{IsStrictlySortedBy-dedup}
use Rattle.std.proofs.lemmas.Cmp.{nat_eq_equiv}
use Rattle.std.proofs.lemmas.List.{take_more}
use Rattle.std.proofs.lemmas.List.Concat.{flat_map-append}
use Rattle.std.proofs.lemmas.List.Sorted.{list_any-IsPermutation}
use Rattle.feature_values.specs.declared.feature.Rid.{Rid}
use Rattle.fes_filter.specs.View.{is_same}
use Rattle.fes_filter.specs.Truth.{is_of}
use Rattle.fes_filter.specs.declared.ids.IdRef.{IdRef}
use Rattle.fes_filter.specs.declared.ids.IdRef.TheVariants.{Known, Nobody, Parameter}
use Rattle.query_core.specs.Finding.{known, known_ids}
use Rattle.query_core.specs.Selecting.{is_among, to_list}
use Rattle.query_core.specs.Sorting.{rid_order}
use Rattle.query_core.proofs.Joins.{same_is}
use Rattle.query_core.proofs.Orders.{rid_total}

-- ---- the loop that keeps the known ones

pub known_none : [] ≡ known_ids []
unfolding known_ids
known_none = refl

known_turn : (references : List IdRef) (i : ℕ) (d : IdRef) → i < length references → known_ids (take (i + 1) references) ≡ known_ids (take i references) ++ to_list (known (get_or references i d))
unfolding known_ids
known_turn references i d lt = rw (take_more references i d lt, flat_map-append) (ap (λ l. flat_map (λ r. to_list (known r)) (take i references) ++ l) (append-nil _))

pub known_more : (references : List IdRef) (i : ℕ) (d : IdRef) (found : List Rid) (id : Rid) → i < length references → Some id ≡ known (get_or references i d) → found ≡ known_ids (take i references) → found ++ id ∷ [] ≡ known_ids (take (i + 1) references)
known_more references i d found id lt is so_far = rw (known_turn references i d lt, ← is, so_far) refl

pub known_absent : (references : List IdRef) (i : ℕ) (d : IdRef) (found : List Rid) → i < length references → None ≡ known (get_or references i d) → found ≡ known_ids (take i references) → found ≡ known_ids (take (i + 1) references)
known_absent references i d found lt is so_far = rw (known_turn references i d lt, ← is, append-nil) so_far

-- ---- which are among them

same_flip : (a b : Rid) → is_same a b ≡ is_same b a
same_flip a b = rw (nat_eq_equiv.symm a.kind b.kind, nat_eq_equiv.symm a.number b.number) refl

listed_among : (id : Rid) (references : List IdRef) → is_among (flat_map (λ r. to_list (known r)) references) id ≡ list_any (is_of id) references
listed_among id [] = refl
listed_among id (Known other ∷ references) = rw (same_flip id other) (ap (λ b. is_same other id || b) (listed_among id references))
listed_among id (Nobody ∷ references) = listed_among id references
listed_among id (Parameter place ∷ references) = listed_among id references

pub known_among : (id : Rid) (references : List IdRef) → is_among (known_ids references) id ≡ list_any (is_of id) references
unfolding known_ids
known_among id references = listed_among id references

-- ---- each once

bool_again : (b c : Bool) → (b || c) ≡ (b || (b || c))
bool_again true c = refl
bool_again false c = refl

module _ {X : Type 0} (E : X → X → Bool) (p : X → Bool) (tells : (x y : X) → E x y ≡ true → p x ≡ p y) where
  once_at : (x k : X) (xs : List X) (b : Bool) → E x k ≡ b → ((y : X) → list_any p (dedup_from E y xs) ≡ (p y || list_any p xs)) → list_any p (cond b (dedup_from E k xs) (k ∷ dedup_from E x xs)) ≡ (p k || (p x || list_any p xs))
  once_at x k xs true is more = more k ∙ bool_again (p k) (list_any p xs) ∙ ap (λ b. p k || (b || list_any p xs)) (sym (tells x k is))
  once_at x k xs false is more = ap (λ b. p k || b) (more x)

  once_from : (xs : List X) (k : X) → list_any p (dedup_from E k xs) ≡ (p k || list_any p xs)
  once_from [] k = refl
  once_from (x ∷ xs) k = once_at x k xs (E x k) refl (once_from xs)

  pub once : (xs : List X) → list_any p (dedup E xs) ≡ list_any p xs
  once [] = refl
  once (x ∷ xs) = once_from xs x

alike : (id a b : Rid) → is_same a b ≡ true → is_same id a ≡ is_same id b
alike id a b h =
    let parts = and_parts (a.kind == b.kind) (a.number == b.number) h in
    rw (eqb-true a.kind b.kind parts.0, eqb-true a.number b.number parts.1) refl

any_alike : (others : List Rid) (id x : Rid) → is_same id x ≡ true → is_among others id ≡ is_among others x
any_alike [] id x same = refl
any_alike (y ∷ others) id x same = rw (same_flip id y, same_flip x y, alike y id x same, any_alike others id x same) refl

pub same_once : (id : Rid) (ids sorted : List Rid) → IsPermutation ids sorted → is_among (dedup is_same sorted) id ≡ is_among ids id
same_once id ids sorted moved = once is_same (is_same id) (alike id) sorted ∙ sym (list_any-IsPermutation (is_same id) ids sorted moved)

pub rises_once : (sorted : List Rid) → IsSorted rid_order sorted → IsStrictlySortedBy rid_order (dedup is_same sorted)
rises_once sorted up = IsStrictlySortedBy-dedup rid_total (λ a b. same_flip a b ∙ same_is b a) sorted up

-- ---- those that are in two lists

in_both_at : (s b o l m : Bool) (x : Rid) (kept : List Rid) (id : Rid) → is_same id x ≡ s → (s ≡ true → o ≡ b) → is_among kept id ≡ (m && o) → is_among (cond b (x ∷ kept) kept) id ≡ ((s || m) && o)
in_both_at true true o l m x kept id is same more = rw (is, same refl) refl
in_both_at true false o l m x kept id is same more = more ∙ rw (same refl) (none m)
  where
    none : (c : Bool) → (c && false) ≡ false
    none true = refl
    none false = refl
in_both_at false true o l m x kept id is same more = rw is more
in_both_at false false o l m x kept id is same more = more

pub in_both : (ids others : List Rid) (id : Rid) → is_among (filter (is_among others) ids) id ≡ (is_among ids id && is_among others id)
in_both [] others id = refl
in_both (x ∷ ids) others id =
    in_both_at (is_same id x) (is_among others x) (is_among others id) true (is_among ids id) x (filter (is_among others) ids) id refl (λ same. any_alike others id x same) (in_both ids others id)

and_back : (b c : Bool) → (b && c) ≡ (c && b)
and_back true true = refl
and_back true false = refl
and_back false true = refl
and_back false false = refl

pub in_both_back : (ids others : List Rid) (id : Rid) → is_among (filter (is_among ids) others) id ≡ (is_among ids id && is_among others id)
in_both_back ids others id = in_both others ids id ∙ and_back (is_among others id) (is_among ids id)

-- ---- in order

less_back : (a b : Rid) → rid_order a b ≡ Less → is_lt (rid_order b a) ≡ false
less_back a b h = ap is_lt (rid_total.antisymm b a ∙ ap ordering_reverse h)

-- identifiers that rise are sorted
pub rises_sorted : (ids : List Rid) → IsStrictlySortedBy rid_order ids → IsSorted rid_order ids
unfolding IsStrictlySortedBy
rises_sorted [] rise k d low lt = absurd (omega (arith, lt))
rises_sorted (a ∷ []) rise k d low lt = absurd (omega (arith, lt))
rises_sorted (a ∷ b ∷ ids) rise zero d low lt = less_back a b rise.0.0
rises_sorted (a ∷ b ∷ ids) rise (suc k) d low lt =
    let next : suc k + 1 ≡ suc (k + 1) = omega arith in
    rw next (rises_sorted (b ∷ ids) rise.1 k d (omega arith) (omega (arith, lt)))
