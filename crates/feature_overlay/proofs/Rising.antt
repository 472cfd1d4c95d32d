-- Changes in the order of their keys.
use Rattle.std.proofs.Common.{◌≡◌, Bool, true, false, cond, List, [], ◌∷◌, filter, All, Option, Some, None, refl, sym, ap, ◌∙◌, subst, arith}
use Rattle.std.specs.declared.cmp.Ordering.TheVariants.{Less}
use Rattle.std.specs.List.{AllByRecursion}
use Rattle.std.specs.List.Sorted.{IsStrictlySortedBy}
use Rattle.std.specs.Map.{keys_of}
use Rattle.std.specs.BTreeMap.Range.{entries_between, range_contains}
use Rattle.std.specs.declared.ops.Bound.TheVariants.{Unbounded}
use Rattle.std.proofs.lemmas.Bool.{false≢true}
use Rattle.std.proofs.lemmas.Bool.Decides.{nat_tests}
use Rattle.std.proofs.lemmas.Map.Keys.{sorted_head, sorted_tail}
use Rattle.std.proofs.lemmas.List.Elements.{All-nil, All-cons, All-head, All-tail, All-weaker, filter_agree}
use Rattle.feature_values.specs.declared.feature.Feature.{Feature}
use Rattle.feature_values.specs.declared.feature.Rid.{Rid}
use Rattle.fes_filter.specs.View.{is_same, is_before}
use Rattle.feature_overlay.specs.First.{is_behind, IsFirst}
use Rattle.feature_overlay.specs.Changed.{change_at, put_at, first_put, start_of, IsOf, AreKeyed}
use Rattle.feature_overlay.specs.Laid.{Change, id_of}
use Rattle.feature_overlay.proofs.Ordered.{same_is, same_itself, before_trans, before_apart_back}
use Rattle.feature_overlay.proofs.Mapped.{Key, key_order, KeyedChange}
use Rattle.feature_overlay.proofs.Firsts.{first_same}

abbrev pub BeforeChange : Key → Change → Type 0
BeforeChange key change = is_before (id_of key) (id_of change.0) ≡ true

abbrev pub Rises : List Change → Type 0
Rises [] = Unit {0}
Rises (change ∷ changes) = All (BeforeChange change.0) changes × Rises changes

less_before : (a b : Key) → key_order a b ≡ Less → is_before (id_of a) (id_of b) ≡ true
less_before a b h = grind (arith, nat_tests, h)

before_all : (key : Key) (changes : List Change) → AllByRecursion (λ k. key_order key k ≡ Less) (keys_of changes) → All (BeforeChange key) changes
before_all key [] all = All-nil (BeforeChange key)
before_all key (change ∷ changes) all = All-cons (BeforeChange key) change changes (less_before key change.0 all.0) (before_all key changes all.1)

pub rises : (changes : List Change) → IsStrictlySortedBy key_order (keys_of changes) → Rises changes
rises [] sorted = tt
rises (change ∷ changes) sorted = (before_all change.0 changes (sorted_head key_order change.0 (keys_of changes) sorted), rises changes (sorted_tail key_order change.0 (keys_of changes) sorted))

-- ---- what is not there

pub none_at : (id : Rid) (changes : List Change) → All (λ change. is_same (id_of change.0) id ≡ false) changes → change_at id changes ≡ None
none_at id [] all = refl
none_at id (change ∷ changes) all = rw (All-head (λ (c : Change). is_same (id_of c.0) id ≡ false) change changes all) (none_at id changes (All-tail (λ (c : Change). is_same (id_of c.0) id ≡ false) change changes all))

pub none_later : (id : Rid) (key : Key) (changes : List Change) → All (BeforeChange key) changes → is_same (id_of key) id ≡ true → change_at id changes ≡ None
none_later id key changes all same =
    none_at id changes (All-weaker (BeforeChange key) (λ (c : Change). is_same (id_of c.0) id ≡ false) (λ c before. subst (λ i. is_same (id_of c.0) i ≡ false) (same_is (id_of key) id same) (before_apart_back (id_of key) (id_of c.0) before)) changes all)

none_earlier : (id : Rid) (key : Key) (changes : List Change) → All (BeforeChange key) changes → is_before id (id_of key) ≡ true → change_at id changes ≡ None
none_earlier id key changes all before =
    none_at id changes (All-weaker (BeforeChange key) (λ (c : Change). is_same (id_of c.0) id ≡ false) (λ c behind. before_apart_back id (id_of c.0) (before_trans id (id_of key) (id_of c.0) before behind)) changes all)

-- ---- the first that was put

behind_same : (after : Option Rid) (change : Change) (changes : List Change) (id : Rid) (b : Bool) → is_same (id_of change.0) id ≡ b → is_behind after (id_of change.0) ≡ false → is_behind after id ≡ true → put_at (change ∷ changes) id ≡ put_at changes id
behind_same after change changes id true is out behind = absurd (false≢true (sym out ∙ ap (λ i. is_behind after i) (same_is (id_of change.0) id is) ∙ behind))
behind_same after change changes id false is out behind = rw is refl

none_same : (key : Key) (changes : List Change) (id : Rid) (b : Bool) → is_same (id_of key) id ≡ b → All (BeforeChange key) changes → put_at ((key, None) ∷ changes) id ≡ put_at changes id
none_same key changes id true is all = rw (is, none_later id key changes all is) refl
none_same key changes id false is all = rw is refl

first_at : (after : Option Rid) (key : Key) (now : Option Feature) (changes later : List Change) (b : Bool) → is_behind after (id_of key) ≡ b → IsOf (id_of key) now → All (BeforeChange key) changes → IsFirst after (put_at changes) (first_put later) → IsFirst after (put_at ((key, now) ∷ changes)) (first_put (cond b ((key, now) ∷ later) later))
first_at after key now changes later false at of all more =
    first_same after (put_at changes) (put_at ((key, now) ∷ changes)) (first_put later) (λ id behind. behind_same after (key, now) changes id (is_same (id_of key) id) refl at behind) more
first_at after key None changes later true at of all more =
    first_same after (put_at changes) (put_at ((key, None) ∷ changes)) (first_put later) (λ id behind. none_same key changes id (is_same (id_of key) id) refl all) more
first_at after key (Some f) changes later true at of all more = (
  rw (of, same_itself (id_of key)) refl,
  subst (λ i. is_behind after i ≡ true) (sym of) at,
  (λ id behind before. let earlier : is_before id (id_of key) ≡ true = subst (λ i. is_before id i ≡ true) of before in rw (before_apart_back id (id_of key) earlier, none_earlier id key changes all earlier) refl),
)

put_first : (after : Option Rid) (changes : List Change) → AreKeyed changes → Rises changes → IsFirst after (put_at changes) (first_put (filter (λ change. is_behind after (id_of change.0)) changes))
put_first after [] keyed rise = λ id behind. refl
put_first after (change ∷ changes) keyed rise =
    first_at after change.0 change.1 changes (filter (λ c. is_behind after (id_of c.0)) changes) (is_behind after (id_of change.0)) refl (All-head KeyedChange change changes keyed) rise.0 (put_first after changes (All-tail KeyedChange change changes keyed) rise.1)

in_range : (after : Option Rid) (change : Change) → range_contains key_order (start_of after) Unbounded change.0 ≡ is_behind after (id_of change.0)
in_range None change = refl
in_range (Some id) change = grind (arith, nat_tests)

pub first_in_range : (after : Option Rid) (changes : List Change) → AreKeyed changes → IsStrictlySortedBy key_order (keys_of changes) → IsFirst after (put_at changes) (first_put (entries_between key_order (start_of after) Unbounded changes))
first_in_range after changes keyed sorted =
    subst (λ (l : List Change). IsFirst after (put_at changes) (first_put l)) (sym (filter_agree (λ (c : Change). range_contains key_order (start_of after) Unbounded c.0) (λ (c : Change). is_behind after (id_of c.0)) (λ c. in_range after c) changes))
    (put_first after changes keyed (rises changes sorted))
