-- What is looked up in features in order by identifiers in order.
use Rattle.std.proofs.Common.{◌≡◌, Bool, true, false, cond, ◌||◌, List, [], ◌∷◌, ◌++◌, filter, All, Some, None, find, refl, sym, ap, ◌∙◌}
use Rattle.std.specs.List.{AllByRecursion}
use Rattle.std.specs.List.Sorted.{IsStrictlySortedBy}
use Rattle.std.specs.declared.cmp.Ordering.{Ordering}
use Rattle.std.specs.declared.cmp.Ordering.TheVariants.{Less, Equal, Greater}
use Rattle.std.specs.Ordering.{ordering_reverse, is_eq}
use Rattle.std.proofs.lemmas.Bool.{false≢true}
use Rattle.std.proofs.lemmas.List.Elements.{All-head, All-tail, All-weaker}
use Rattle.feature_values.specs.declared.feature.Feature.{Feature}
use Rattle.feature_values.specs.declared.feature.Rid.{Rid}
use Rattle.fes_filter.specs.View.{is_same, is_before, IsInOrder, feature_at}
use Rattle.query_core.specs.Selecting.{is_among, held, to_list}
use Rattle.query_core.specs.Sorting.{rid_order}
use Rattle.query_core.proofs.Orders.{rid_total}
use Rattle.query_core.proofs.Joins.{same_is}
use Rattle.query_core.proofs.Walks.{less}

-- ---- two tests, of which the first holds at one element at most

module _ {X : Type 0} (p q : X → Bool) where
  -- where the first holds the second does not, and behind an element where one of them holds the first holds nowhere
  abbrev pub Splits : List X → Type 0
  Splits [] = Unit {0}
  Splits (x ∷ xs) = ((p x ≡ true → q x ≡ false) × ((p x || q x) ≡ true → All (λ y. p y ≡ false) xs)) × Splits xs

  none_found : (xs : List X) → All (λ y. p y ≡ false) xs → find p xs ≡ None
  none_found [] all = refl
  none_found (x ∷ xs) all = rw (All-head (λ y. p y ≡ false) x xs all) (none_found xs (All-tail (λ y. p y ≡ false) x xs all))

  second_alone : (xs : List X) → All (λ y. p y ≡ false) xs → filter (λ x. p x || q x) xs ≡ filter q xs
  second_alone [] all = refl
  second_alone (x ∷ xs) all = rw (All-head (λ y. p y ≡ false) x xs all, second_alone xs (All-tail (λ y. p y ≡ false) x xs all)) refl

  split_at : (x : X) (xs : List X) (b c : Bool) → (b ≡ true → c ≡ false) → ((b || c) ≡ true → All (λ y. p y ≡ false) xs) → filter (λ y. p y || q y) xs ≡ to_list (find p xs) ++ filter q xs → cond (b || c) (x ∷ filter (λ y. p y || q y) xs) (filter (λ y. p y || q y) xs) ≡ to_list (cond b (Some x) (find p xs)) ++ cond c (x ∷ filter q xs) (filter q xs)
  split_at x xs true c apart none more = rw (apart refl) (ap (λ l. x ∷ l) (second_alone xs (none refl)))
  split_at x xs false true apart none more = rw (none_found xs (none refl)) (ap (λ l. x ∷ l) (second_alone xs (none refl)))
  split_at x xs false false apart none more = more

  pub split : (xs : List X) → Splits xs → filter (λ x. p x || q x) xs ≡ to_list (find p xs) ++ filter q xs
  split [] splits = refl
  split (x ∷ xs) splits = split_at x xs (p x) (q x) splits.0.0 splits.0.1 (split xs splits.1)

-- ---- identifiers in order

is_equal : (o : Ordering) → is_eq o ≡ true → o ≡ Equal
is_equal Less h = absurd (false≢true h)
is_equal Equal h = refl
is_equal Greater h = absurd (false≢true h)

same_order : (a b : Rid) → is_same a b ≡ true → rid_order b a ≡ Equal
same_order a b h = is_equal (rid_order b a) (sym (same_is a b) ∙ h)

-- what is before an identifier is before one that is the same
before_same : (id a b : Rid) → rid_order id a ≡ Less → rid_order a b ≡ Equal → rid_order id b ≡ Less
before_same id a b h same =
    rid_total.antisymm id b ∙ ap ordering_reverse (sym (rid_total.congr a b id same)) ∙ sym (rid_total.antisymm id a) ∙ h

after_same : (id a b : Rid) → rid_order id a ≡ Equal → rid_order a b ≡ Less → rid_order id b ≡ Less
after_same id a b same h = rid_total.congr id a b same ∙ h

among_at : (id x y : Rid) (b c : Bool) → is_same y x ≡ b → rid_order id x ≡ Less → (c ≡ true → rid_order id y ≡ Less) → (b || c) ≡ true → rid_order id y ≡ Less
among_at id x y true c is h more any = before_same id x y h (same_order y x is)
among_at id x y false c is h more any = more any

-- one that is among others behind an identifier is behind it
among_behind : (id y : Rid) (ids : List Rid) → AllByRecursion (λ x. rid_order id x ≡ Less) ids → is_among ids y ≡ true → rid_order id y ≡ Less
among_behind id y [] all any = absurd (false≢true any)
among_behind id y (x ∷ ids) all any = among_at id x y (is_same y x) (is_among ids y) refl all.0 (among_behind id y ids all.1) any

not_both : (o : Ordering) → o ≡ Equal → o ≡ Less → ⊥
not_both Less h k = cc
not_both Equal h k = cc
not_both Greater h k = cc

apart_at : (id y : Rid) (ids : List Rid) (c : Bool) → AllByRecursion (λ x. rid_order id x ≡ Less) ids → is_same y id ≡ true → is_among ids y ≡ c → c ≡ false
apart_at id y ids false all same is = refl
apart_at id y ids true all same is = absurd (not_both (rid_order id y) (same_order y id same) (among_behind id y ids all is))

not_same : (id y : Rid) → rid_order id y ≡ Less → is_same y id ≡ false
not_same id y h = same_is y id ∙ ap is_eq h

behind_at : (id y z : Rid) (ids : List Rid) (b c : Bool) → AllByRecursion (λ x. rid_order id x ≡ Less) ids → is_same y id ≡ b → is_among ids y ≡ c → (b || c) ≡ true → is_before y z ≡ true → is_same z id ≡ false
behind_at id y z ids true c all same among any h = not_same id z (after_same id y z (same_order y id same) (less y z h))
behind_at id y z ids false c all same among any h = not_same id z (rid_total.trans id y z (among_behind id y ids all (among ∙ any)) (less y z h))

splits : (id : Rid) (ids : List Rid) (fs : List Feature) → AllByRecursion (λ x. rid_order id x ≡ Less) ids → IsInOrder fs → Splits (λ (f : Feature). is_same f.id id) (λ f. is_among ids f.id) fs
splits id ids [] all order = tt
splits id ids (f ∷ fs) all order = (
  (
    (λ same. apart_at id f.id ids (is_among ids f.id) all same refl),
    (λ any. All-weaker (λ g. is_before f.id g.id ≡ true) (λ g. is_same g.id id ≡ false) (λ g h. behind_at id f.id g.id ids (is_same f.id id) (is_among ids f.id) all refl refl any h) fs order.0),
  ),
  splits id ids fs all order.1,
)

none_left : (fs : List Feature) → [] ≡ filter (λ (f : Feature). false) fs
none_left [] = refl
none_left (f ∷ fs) = none_left fs

-- what is looked up is what stands in the list under one of the identifiers
pub held_is : (features : List Feature) (ids : List Rid) → IsInOrder features → IsStrictlySortedBy rid_order ids → held features ids ≡ filter (λ f. is_among ids f.id) features
unfolding held IsStrictlySortedBy
held_is features [] order rise = none_left features
held_is features (id ∷ ids) order rise =
    ap (λ l. to_list (feature_at id features) ++ l) (held_is features ids order rise.1)
    ∙ sym (split (λ f. is_same f.id id) (λ f. is_among ids f.id) features (splits id ids features rise.0 order))
