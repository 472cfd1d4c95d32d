-- What is left of a selection behind the features that it found.
use Rattle.std.proofs.Common.{◌≡◌, Bool, true, false, cond, ◌==◌, List, [], ◌∷◌, length, filter, All, refl, sym, ap, ◌∙◌, arith, eqb-true}
use Rattle.std.proofs.lemmas.List.Elements.{All-filter, All-head}
use Rattle.feature_values.specs.declared.feature.Feature.{Feature}
use Rattle.fes_filter.specs.declared.query.Query.{Query}
use Rattle.fes_filter.specs.declared.query.SortKey.{SortKey}
use Rattle.fes_filter.specs.View.{is_before, IsInOrder}
use Rattle.query_core.specs.Selecting.{is_selected, selected, ids_of, selected_ids}
use Rattle.query_core.specs.Sorting.{put_in, sorted, feature_order}
use Rattle.query_core.proofs.Walks.{less}

in_order_at : (p : Feature → Bool) (f : Feature) (fs : List Feature) (b : Bool) → All (λ g. is_before f.id g.id ≡ true) fs → IsInOrder (filter p fs) → IsInOrder (cond b (f ∷ filter p fs) (filter p fs))
in_order_at p f fs true all order = (All-filter p (λ g. is_before f.id g.id ≡ true) fs all, order)
in_order_at p f fs false all order = order

pub in_order_filter : (p : Feature → Bool) (fs : List Feature) → IsInOrder fs → IsInOrder (filter p fs)
in_order_filter p [] order = tt
in_order_filter p (f ∷ fs) order = in_order_at p f fs (p f) order.0 (in_order_filter p fs order.1)

first_stays : (f : Feature) (fs : List Feature) → IsInOrder (f ∷ fs) → put_in [] f fs ≡ f ∷ fs
unfolding put_in feature_order
first_stays f [] order = refl
first_stays f (g ∷ gs) order = rw (less f.id g.id (All-head (λ h. is_before f.id h.id ≡ true) g gs order.0)) refl

-- without keys features in default order stay
pub stays_sorted : (fs : List Feature) → IsInOrder fs → sorted [] fs ≡ fs
unfolding sorted
stays_sorted [] order = refl
stays_sorted (f ∷ fs) order = ap (put_in [] f) (stays_sorted fs order.1) ∙ first_stays f fs order

no_keys : (keys : List SortKey) → (length keys == 0) ≡ true → keys ≡ []
no_keys [] empty = refl
no_keys (key ∷ keys) empty = absurd (omega (arith, eqb-true (length (key ∷ keys)) 0 empty))

pub select_plain : (features : List Feature) (query : Query) (keys : List SortKey) (found : List Feature) → IsInOrder features → keys ≡ query.sort → (length keys == 0) ≡ true → found ≡ filter (is_selected query) features → ids_of found ≡ selected_ids features query
unfolding selected
select_plain features query keys found order is empty all =
    ap ids_of (all ∙ sym (stays_sorted (filter (is_selected query) features) (in_order_filter (is_selected query) features order)) ∙ ap (λ ks. sorted ks (filter (is_selected query) features)) (sym (no_keys keys empty) ∙ is))

pub select_sorted : (features : List Feature) (query : Query) (keys : List SortKey) (found : List Feature) → keys ≡ query.sort → found ≡ filter (is_selected query) features → ids_of (sorted keys found) ≡ selected_ids features query
unfolding selected
select_sorted features query keys found is all = rw (is, all) refl
