-- What is found in features with changes laid over them.
use Rattle.std.proofs.Common.{◌≡◌, Bool, true, false, cond, List, [], ◌∷◌, ◌++◌, filter, All, Option, Some, None, find, refl, sym, ap, ◌∙◌, subst}
use Rattle.std.specs.Option.{option_to_list, option_or, unwrap_or}
use Rattle.std.specs.Prelude.{is_some}
use Rattle.std.proofs.lemmas.Bool.{false≢true}
use Rattle.std.proofs.lemmas.List.Folds.{find-append}
use Rattle.std.proofs.lemmas.List.Elements.{All-nil, All-cons, All-head, All-tail, All-append, All-filter, All-weaker, filter_passes}
use Rattle.feature_values.specs.declared.feature.Feature.{Feature}
use Rattle.feature_values.specs.declared.feature.Rid.{Rid}
use Rattle.fes_filter.specs.View.{is_same, is_before, IsInOrder, feature_at}
use Rattle.feature_overlay.specs.Changed.{change_at, kept_at, put_at, IsOf, AreKeyed}
use Rattle.feature_overlay.specs.Laid.{Change, id_of, laid, all_laid}
use Rattle.feature_overlay.proofs.Ordered.{same_is, before_trans, not_before_itself, from_apart_back, Before, same_features}

-- ---- look-ups

find_filter_at : {X : Type 0} (p q : X → Bool) (b c d : Bool) (x : X) (found : Option X) (kept : List X) → p x ≡ c → q x ≡ d → (c ≡ true → d ≡ b) → find p kept ≡ cond b found None → find p (cond d (x ∷ kept) kept) ≡ cond b (cond c (Some x) found) None
find_filter_at p q true true true x found kept h k agree more = rw h refl
find_filter_at p q true true false x found kept h k agree more = absurd (false≢true (agree refl))
find_filter_at p q true false true x found kept h k agree more = rw h more
find_filter_at p q true false false x found kept h k agree more = more
find_filter_at p q false true true x found kept h k agree more = absurd (false≢true (sym (agree refl)))
find_filter_at p q false true false x found kept h k agree more = more
find_filter_at p q false false true x found kept h k agree more = rw h more
find_filter_at p q false false false x found kept h k agree more = more

-- a filter keeps all that is looked for, or nothing of it
find_filter : {X : Type 0} (p q : X → Bool) (b : Bool) → ((x : X) → p x ≡ true → q x ≡ b) → (xs : List X) → find p (filter q xs) ≡ cond b (find p xs) None
find_filter p q true agree [] = refl
find_filter p q false agree [] = refl
find_filter p q b agree (x ∷ xs) = find_filter_at p q b (p x) (q x) x (find p xs) (filter q xs) refl refl (λ passes. agree x passes) (find_filter p q b agree xs)

abbrev Is : Rid → Feature → Bool
Is id f = is_same f.id id

same_none : {X : Type 0} (b : Bool) → ◌≡◌ {A = Option X} None (cond b None None)
same_none true = refl
same_none false = refl

now_at : (id at : Rid) (now : Option Feature) → IsOf at now → find (Is id) (option_to_list now) ≡ cond (is_same at id) now None
now_at id at None of = same_none (is_same at id)
now_at id at (Some f) of = ap (λ i. cond (is_same i id) (Some f) None) of

before_at : (id at : Rid) (f : Feature) → Is id f ≡ true → is_before f.id at ≡ is_before id at
before_at id at f h = ap (λ i. is_before i at) (same_is f.id id h)

behind_at : (id at : Rid) (f : Feature) → Is id f ≡ true → is_before at f.id ≡ is_before at id
behind_at id at f h = ap (λ i. is_before at i) (same_is f.id id h)

three : (b s c : Bool) (now found : Option Feature) → (s ≡ true → b ≡ false) → (s ≡ true → c ≡ false) → (s ≡ false → b ≡ false → c ≡ true) → option_or (cond b found None) (option_or (cond s now None) (cond c found None)) ≡ cond s now found
three true true c now found h k l = absurd (false≢true (sym (h refl)))
three false true true now found h k l = absurd (false≢true (sym (k refl)))
three false true false None found h k l = refl
three false true false (Some f) found h k l = refl
three true false true now None h k l = refl
three true false true now (Some g) h k l = refl
three true false false now None h k l = refl
three true false false now (Some g) h k l = refl
three false false true now found h k l = refl
three false false false now found h k l = absurd (false≢true (l refl refl))

same_not_before : (a b : Rid) → is_same a b ≡ true → is_before a b ≡ false
same_not_before a b h = subst (λ i. is_before a i ≡ false) (same_is a b h) (not_before_itself a)

same_not_behind : (a b : Rid) → is_same a b ≡ true → is_before b a ≡ false
same_not_behind a b h = subst (λ i. is_before i a ≡ false) (same_is a b h) (not_before_itself a)

pub at_laid : (fs : List Feature) (at : Rid) (now : Option Feature) (id : Rid) → IsOf at now → feature_at id (laid fs at now) ≡ cond (is_same at id) now (feature_at id fs)
unfolding laid
at_laid fs at now id of =
    let earlier = find_filter (Is id) (λ (f : Feature). is_before f.id at) (is_before id at) (λ f h. before_at id at f h) fs in
    let here = now_at id at now of in
    let later = find_filter (Is id) (λ (f : Feature). is_before at f.id) (is_before at id) (λ f h. behind_at id at f h) fs in
    find-append (Is id) (filter (λ f. is_before f.id at) fs) (option_to_list now ++ filter (λ f. is_before at f.id) fs)
    ∙ ap (λ o. option_or (find (Is id) (filter (λ f. is_before f.id at) fs)) o) (find-append (Is id) (option_to_list now) (filter (λ f. is_before at f.id) fs))
    ∙ rw (earlier, here, later) (three (is_before id at) (is_same at id) (is_before at id) now (feature_at id fs) (same_not_behind at id) (same_not_before at id) (λ apart out. from_apart_back at id apart out))

-- ---- laid features stand in order

module _ (P : Feature → Type 0) where
  all_now : (at : Rid) (now : Option Feature) → IsOf at now → ((f : Feature) → f.id ≡ at → P f) → All P (option_to_list now)
  all_now at None of h = All-nil P
  all_now at (Some f) of h = All-cons P f [] (h f of) (All-nil P)

filter_in_order : (q : Feature → Bool) (fs : List Feature) → IsInOrder fs → IsInOrder (filter q fs)
filter_in_order q [] order = tt
filter_in_order q (f ∷ fs) order = kept (q f) (All-filter q (Before f) fs order.0) (filter_in_order q fs order.1)
  where
    kept : (b : Bool) → All (Before f) (filter q fs) → IsInOrder (filter q fs) → IsInOrder (cond b (f ∷ filter q fs) (filter q fs))
    kept true all rest = (all, rest)
    kept false all rest = rest

append_in_order : (fs gs : List Feature) → IsInOrder fs → IsInOrder gs → All (λ f. All (Before f) gs) fs → IsInOrder (fs ++ gs)
append_in_order [] gs order others all = others
append_in_order (f ∷ fs) gs order others all =
    (All-append (Before f) fs gs order.0 (All-head (λ (g : Feature). All (Before g) gs) f fs all), append_in_order fs gs order.1 others (All-tail (λ (g : Feature). All (Before g) gs) f fs all))

now_in_order : (now : Option Feature) → IsInOrder (option_to_list now)
now_in_order None = tt
now_in_order (Some f) = (All-nil (Before f), tt)

pub laid_in_order : (fs : List Feature) (at : Rid) (now : Option Feature) → IsOf at now → IsInOrder fs → IsInOrder (laid fs at now)
unfolding laid
laid_in_order fs at now of order =
    let later = filter (λ (f : Feature). is_before at f.id) fs in
    let earlier = filter (λ (f : Feature). is_before f.id at) fs in
    let behind : All (λ f. is_before at f.id ≡ true) later = filter_passes (λ (f : Feature). is_before at f.id) fs in
    let before : All (λ f. is_before f.id at ≡ true) earlier = filter_passes (λ (f : Feature). is_before f.id at) fs in
    let here : All (λ f. All (Before f) later) (option_to_list now) = all_now (λ (f : Feature). All (Before f) later) at now of (λ f is. subst (λ i. All (λ (g : Feature). is_before i g.id ≡ true) later) (sym is) behind) in
    let middle : IsInOrder (option_to_list now ++ later) = append_in_order (option_to_list now) later (now_in_order now) (filter_in_order (λ (f : Feature). is_before at f.id) fs order) here in
    append_in_order earlier (option_to_list now ++ later) (filter_in_order (λ (f : Feature). is_before f.id at) fs order) middle
    (All-weaker (λ (f : Feature). is_before f.id at ≡ true) (λ (f : Feature). All (Before f) (option_to_list now ++ later))
    (λ f first. All-append (Before f) (option_to_list now) later (all_now (Before f) at now of (λ g is. subst (λ i. is_before f.id i ≡ true) (sym is) first)) (All-weaker (λ (g : Feature). is_before at g.id ≡ true) (Before f) (λ g last. before_trans f.id at g.id first last) later behind)) earlier before)

-- ---- all changes

or_at : (b : Bool) (now : Option Feature) (change : Option (Option Feature)) (found : Option Feature) → cond b now (unwrap_or change found) ≡ unwrap_or (cond b (Some now) change) found
or_at true now change found = refl
or_at false now change found = refl

abbrev KeyedChange : Change → Type 0
KeyedChange change = IsOf (id_of change.0) change.1

pub at_all : (fs : List Feature) (changes : List Change) (id : Rid) → AreKeyed changes → feature_at id (all_laid fs changes) ≡ unwrap_or (change_at id changes) (feature_at id fs)
at_all fs [] id keyed = refl
at_all fs (change ∷ changes) id keyed =
    at_laid (all_laid fs changes) (id_of change.0) change.1 id (All-head KeyedChange change changes keyed)
    ∙ ap (λ o. cond (is_same (id_of change.0) id) change.1 o) (at_all fs changes id (All-tail KeyedChange change changes keyed))
    ∙ or_at (is_same (id_of change.0) id) change.1 (change_at id changes) (feature_at id fs)

pub all_in_order : (fs : List Feature) (changes : List Change) → AreKeyed changes → IsInOrder fs → IsInOrder (all_laid fs changes)
all_in_order fs [] keyed order = order
all_in_order fs (change ∷ changes) keyed order =
    laid_in_order (all_laid fs changes) (id_of change.0) change.1 (All-head KeyedChange change changes keyed) (all_in_order fs changes (All-tail KeyedChange change changes keyed) order)

-- ---- one change more

pub laid_over : (fs : List Feature) (old new : List Change) (at : Rid) (now : Option Feature) → IsInOrder fs → AreKeyed old → AreKeyed new → IsOf at now → ((id : Rid) → change_at id new ≡ cond (is_same at id) (Some now) (change_at id old)) → all_laid fs new ≡ laid (all_laid fs old) at now
laid_over fs old new at now order keyed_old keyed of is =
    same_features (all_laid fs new) (laid (all_laid fs old) at now) (all_in_order fs new keyed order) (laid_in_order (all_laid fs old) at now of (all_in_order fs old keyed_old order))
    (λ id. at_all fs new id keyed ∙ ap (λ o. unwrap_or o (feature_at id fs)) (is id)
    ∙ sym (or_at (is_same at id) now (change_at id old) (feature_at id fs)) ∙ ap (λ o. cond (is_same at id) now o) (sym (at_all fs old id keyed_old)) ∙ sym (at_laid (all_laid fs old) at now id of))

-- ---- what is found

pub found_changed : (fs : List Feature) (changes : List Change) (id : Rid) (now : Option Feature) → AreKeyed changes → Some now ≡ change_at id changes → now ≡ feature_at id (all_laid fs changes)
found_changed fs changes id now keyed is = sym (at_all fs changes id keyed ∙ ap (λ o. unwrap_or o (feature_at id fs)) (sym is))

pub found_kept : (fs : List Feature) (changes : List Change) (id : Rid) → AreKeyed changes → None ≡ change_at id changes → feature_at id fs ≡ feature_at id (all_laid fs changes)
found_kept fs changes id keyed is = sym (at_all fs changes id keyed ∙ ap (λ o. unwrap_or o (feature_at id fs)) (sym is))

pub kept_here : (fs : List Feature) (changes : List Change) (id : Rid) → is_some (change_at id changes) ≡ false → kept_at fs changes id ≡ feature_at id fs
kept_here fs changes id is = rw is refl

pub kept_gone : (fs : List Feature) (changes : List Change) (id : Rid) → is_some (change_at id changes) ≡ true → kept_at fs changes id ≡ None
kept_gone fs changes id is = rw is refl

fewer_at : (b : Bool) (found : Option Feature) → found ≡ None → cond b None found ≡ None
fewer_at true found is = refl
fewer_at false found is = is

pub kept_fewer : (fs : List Feature) (changes : List Change) (id : Rid) → feature_at id fs ≡ None → kept_at fs changes id ≡ None
kept_fewer fs changes id is = fewer_at (is_some (change_at id changes)) (feature_at id fs) is

-- the kept and the put together
both_at : (change : Option (Option Feature)) (found : Option Feature) → (change ≡ Some None → found ≡ found) → unwrap_or change found ≡ option_or (unwrap_or change None) (cond (is_some change) None found)
both_at None found h = refl
both_at (Some None) found h = refl
both_at (Some (Some f)) found h = refl

pub all_is : (fs : List Feature) (changes : List Change) (id : Rid) → AreKeyed changes → feature_at id (all_laid fs changes) ≡ option_or (put_at changes id) (kept_at fs changes id)
all_is fs changes id keyed = at_all fs changes id keyed ∙ both_at (change_at id changes) (feature_at id fs) (λ h. refl)
