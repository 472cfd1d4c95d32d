-- A loop over keys that stops at the first that decides.
use Rattle.std.proofs.Common.{◌≡◌, ℕ, ◌+◌, ◌<◌, ◌≤◌, true, false, List, length, get_or, drop, refl, sym, ap, ◌∙◌}
use Rattle.std.specs.declared.cmp.Ordering.{Ordering}
use Rattle.std.specs.declared.cmp.Ordering.TheVariants.{Less, Equal, Greater}
use Rattle.std.specs.Ordering.{ordering_then, is_ne}
use Rattle.std.proofs.lemmas.Bool.{false≢true}
use Rattle.std.proofs.lemmas.List.{drop_more, at_drop_all}
use Rattle.feature_values.specs.declared.feature.Feature.{Feature}
use Rattle.fes_filter.specs.declared.query.SortKey.{SortKey}
use Rattle.query_core.specs.Sorting.{key_order, rid_order, feature_order}

-- by the keys from one on
abbrev pub from_key : List SortKey → ℕ → Feature → Feature → Ordering
from_key keys i a b = feature_order (drop i keys) a b

key_turn : (keys : List SortKey) (i : ℕ) (d : SortKey) (a b : Feature) → i < length keys → from_key keys i a b ≡ ordering_then (key_order (get_or keys i d) a b) (from_key keys (i + 1) a b)
unfolding feature_order
key_turn keys i d a b lt = rw (drop_more keys i d lt) refl

decides : (o p : Ordering) → is_ne o ≡ true → ordering_then o p ≡ o
decides Less p h = refl
decides Equal p h = absurd (false≢true h)
decides Greater p h = refl

goes_on : (o p : Ordering) → is_ne o ≡ false → ordering_then o p ≡ p
goes_on Less p h = absurd (false≢true (sym h))
goes_on Equal p h = refl
goes_on Greater p h = absurd (false≢true (sym h))

pub key_decides : (keys : List SortKey) (i : ℕ) (d : SortKey) (a b : Feature) (order total : Ordering) → i < length keys → order ≡ key_order (get_or keys i d) a b → is_ne order ≡ true → from_key keys i a b ≡ total → order ≡ total
key_decides keys i d a b order total lt now differs so_far =
    now ∙ sym (decides (key_order (get_or keys i d) a b) (from_key keys (i + 1) a b) (ap is_ne (sym now) ∙ differs)) ∙ sym (key_turn keys i d a b lt) ∙ so_far

pub key_ties : (keys : List SortKey) (i : ℕ) (d : SortKey) (a b : Feature) (order total : Ordering) → i < length keys → order ≡ key_order (get_or keys i d) a b → is_ne order ≡ false → from_key keys i a b ≡ total → from_key keys (i + 1) a b ≡ total
key_ties keys i d a b order total lt now same so_far =
    sym (goes_on (key_order (get_or keys i d) a b) (from_key keys (i + 1) a b) (ap is_ne (sym now) ∙ same)) ∙ sym (key_turn keys i d a b lt) ∙ so_far

pub no_key_left : (keys : List SortKey) (i : ℕ) (a b : Feature) (total : Ordering) → length keys ≤ i → from_key keys i a b ≡ total → rid_order a.id b.id ≡ total
unfolding feature_order
no_key_left keys i a b total le so_far = sym (at_drop_all (λ ks. feature_order ks a b) keys i le) ∙ so_far
