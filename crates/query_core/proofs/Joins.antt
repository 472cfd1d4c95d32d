-- Whether an identifier is among others, found by halving a sorted copy.
use Rattle.std.proofs.Common.{◌≡◌, ℕ, ◌<◌, ◌≤◌, Bool, true, false, not, ◌&&◌, ◌==◌, eqb, ltb, List, [], ◌∷◌, ◌++◌, length, get_or, filter, Result, Ok, Err, is_ok, IsPermutation, refl, sym, ap, ◌∙◌, arith, ltb-true, ltb-false, eqb-true}
use Rattle.std.specs.List.Sorted.{IsSorted, IsBinarySearchResult, IsSearchInRange}
use Rattle.std.specs.declared.cmp.Ordering.{Ordering}
use Rattle.std.specs.declared.cmp.Ordering.TheVariants.{Less, Equal, Greater}
use Rattle.std.specs.Ordering.{ordering_then, nat_cmp, is_eq}
use Rattle.std.proofs.lemmas.Bool.Decides.{nat_tests}
use Rattle.std.proofs.lemmas.List.Elements.{filter_agree}
use Rattle.std.proofs.lemmas.List.Folds.{list_any_at, list_any_none}
use Rattle.std.proofs.lemmas.List.Sorted.{searchable_from_sorted, list_any-IsPermutation}
use Rattle.feature_values.specs.declared.feature.Rid.{Rid}
use Rattle.fes_filter.specs.View.{is_same}
use Rattle.query_core.specs.Selecting.{is_among, joined}
use Rattle.query_core.specs.Sorting.{rid_order}
use Rattle.query_core.proofs.Orders.{rid_total}

nat_same : (k m : ℕ) → eqb k m ≡ is_eq (nat_cmp m k)
nat_same k m = grind (arith, nat_tests)

then_same : (o p : Ordering) → is_eq (ordering_then o p) ≡ (is_eq o && is_eq p)
then_same Less p = refl
then_same Equal p = refl
then_same Greater p = refl

pub same_is : (id other : Rid) → is_same id other ≡ is_eq (rid_order other id)
unfolding rid_order
same_is id other =
    rw (nat_same id.kind other.kind, nat_same id.number other.number) (sym (then_same (nat_cmp other.kind id.kind) (nat_cmp other.number id.number)))

half_at : {P : Type 0} (k i : ℕ) (b : Bool) → ltb k i ≡ b → (k < i → P) → (i ≤ k → P) → P
half_at k i true is below above = below (ltb-true k i is)
half_at k i false is below above = above (ltb-false k i is)

by_half : {P : Type 0} (k i : ℕ) → (k < i → P) → (i ≤ k → P) → P
by_half k i below above = half_at k i (ltb k i) refl below above

pub search_tells : (sorted : List Rid) (id : Rid) (r : Result ℕ ℕ) → IsSorted rid_order sorted → IsSearchInRange r (length sorted) → IsBinarySearchResult (λ y. rid_order y id) sorted r → is_ok r ≡ is_among sorted id
search_tells sorted id (Ok i) up bound h = sym (list_any_at (is_same id) sorted i id bound (same_is id (get_or sorted i id) ∙ ap is_eq (h id)))
search_tells sorted id (Err i) up bound h =
    let part = h (searchable_from_sorted rid_total (λ x. x) sorted id up) in
    sym (list_any_none (is_same id) sorted (λ k d lt. same_is id (get_or sorted k d) ∙
    by_half k i (λ below. ap is_eq (part.0 k d (omega arith) below)) (λ above. ap is_eq (part.1 k d above lt))))

-- what is among a copy in another order is among the list
pub joined_by : (ids sorted more : List Rid) → IsPermutation ids sorted → ids ++ filter (λ id. not (is_among sorted id)) more ≡ joined ids more
unfolding joined
joined_by ids sorted more moved =
    ap (λ l. ids ++ l) (filter_agree (λ id. not (is_among sorted id)) (λ id. not (is_among ids id)) (λ id. ap not (sym (list_any-IsPermutation (is_same id) ids sorted moved))) more)

all_new : (more : List Rid) → more ≡ filter (λ id. true) more
all_new [] = refl
all_new (id ∷ more) = ap (λ l. id ∷ l) (all_new more)

pub joined_none : (ids items more : List Rid) → items ≡ ids → (length items == 0) ≡ true → more ≡ joined ids more
unfolding joined
joined_none [] items more is empty = all_new more
joined_none (id ∷ ids) items more is empty = absurd (omega (arith, ap length is, eqb-true (length items) 0 empty))
