-- Features in order, and what is found among them.
use Rattle.std.proofs.Common.{◌≡◌, ℕ, Bool, true, false, cond, List, [], ◌∷◌, get_or, All, Option, Some, None, find, refl, sym, ap, ◌∙◌, arith}
use Rattle.std.proofs.Common.{subst}
use Rattle.std.proofs.lemmas.Option.{none-some, same_Some}
use Rattle.std.proofs.lemmas.Bool.{false≢true}
use Rattle.std.proofs.lemmas.Bool.Decides.{nat_tests}
use Rattle.std.proofs.lemmas.List.Elements.{All-nil, All-cons, All-head, All-tail, All-weaker}
use Rattle.feature_values.specs.declared.feature.Feature.{Feature}
use Rattle.feature_values.specs.declared.feature.Rid.{Rid}
use Rattle.fes_filter.specs.View.{is_same, is_before, IsInOrder, feature_at}

-- ---- identifiers

pub same_itself : (a : Rid) → is_same a a ≡ true
same_itself a = grind (arith, nat_tests)

abbrev rid : ℕ → ℕ → Rid
rid kind number = record { kind = kind; number = number }

rid_is : (k n l m : ℕ) → k ≡ l → n ≡ m → rid k n ≡ rid l m
rid_is k n l m p q = cc

pub same_is : (a b : Rid) → is_same a b ≡ true → a ≡ b
same_is a b h = rid_is a.kind a.number b.kind b.number (grind (arith, nat_tests, h)) (grind (arith, nat_tests, h))

pub before_trans : (a b c : Rid) → is_before a b ≡ true → is_before b c ≡ true → is_before a c ≡ true
before_trans a b c h k = grind (arith, nat_tests, h, k)

pub before_apart : (a b : Rid) → is_before a b ≡ true → is_same a b ≡ false
before_apart a b h = grind (arith, nat_tests, h)

pub before_apart_back : (a b : Rid) → is_before a b ≡ true → is_same b a ≡ false
before_apart_back a b h = grind (arith, nat_tests, h)

pub not_before_itself : (a : Rid) → is_before a a ≡ false
not_before_itself a = grind (arith, nat_tests)

pub not_both : (a b : Rid) → is_before a b ≡ true → is_before b a ≡ true → ⊥
not_both a b h k = absurd (false≢true (sym (not_before_itself a) ∙ before_trans a b a h k))

pub from_apart : (a b : Rid) → is_same a b ≡ false → is_before a b ≡ false → is_before b a ≡ true
from_apart a b h k = grind (arith, nat_tests, h, k)

pub from_apart_back : (a b : Rid) → is_same a b ≡ false → is_before b a ≡ false → is_before a b ≡ true
from_apart_back a b h k = grind (arith, nat_tests, h, k)

-- ---- what is found in a list

module _ {X : Type 0} (p : X → Bool) where
  pub find_none : (xs : List X) → All (λ x. p x ≡ false) xs → find p xs ≡ None
  find_none [] all = refl
  find_none (x ∷ xs) all = rw (All-head (λ y. p y ≡ false) x xs all) (find_none xs (All-tail (λ y. p y ≡ false) x xs all))

  among_at : (P : X → Type 0) (b : Bool) (x y : X) (found : Option X) → P x → (found ≡ Some y → P y) → cond b (Some x) found ≡ Some y → P y
  among_at P true x y found here more is = subst P (same_Some x y is) here
  among_at P false x y found here more is = more is

  -- what holds of all holds of what is found
  pub found_among : (P : X → Type 0) (xs : List X) (y : X) → All P xs → find p xs ≡ Some y → P y
  found_among P [] y all is = absurd (none-some y is)
  found_among P (x ∷ xs) y all is = among_at P (p x) x y (find p xs) (All-head P x xs all) (found_among P xs y (All-tail P x xs all)) is

  passes_at : (b : Bool) (x y : X) (found : Option X) → p x ≡ b → (found ≡ Some y → p y ≡ true) → cond b (Some x) found ≡ Some y → p y ≡ true
  passes_at true x y found here more is = sym (ap p (same_Some x y is)) ∙ here
  passes_at false x y found here more is = more is

  pub found_passes : (xs : List X) (y : X) → find p xs ≡ Some y → p y ≡ true
  found_passes [] y is = absurd (none-some y is)
  found_passes (x ∷ xs) y is = passes_at (p x) x y (find p xs) refl (found_passes xs y) is

-- ---- features in order

abbrev pub Before : Feature → Feature → Type 0
Before f g = is_before f.id g.id ≡ true

pub found_first : (f : Feature) (fs : List Feature) → feature_at f.id (f ∷ fs) ≡ Some f
found_first f fs = rw (same_itself f.id) refl

pub found_later : (id : Rid) (f : Feature) (fs : List Feature) → is_same f.id id ≡ false → feature_at id (f ∷ fs) ≡ feature_at id fs
found_later id f fs apart = rw apart refl

-- what is the same as the first is not among those behind it
not_later : (id : Rid) (f : Feature) (fs : List Feature) → All (Before f) fs → is_same f.id id ≡ true → feature_at id fs ≡ None
not_later id f fs all same =
    find_none (λ (g : Feature). is_same g.id id) fs
    (All-weaker (Before f) (λ (g : Feature). is_same g.id id ≡ false) (λ g before. subst (λ (i : Rid). is_same g.id i ≡ false) (same_is f.id id same) (before_apart_back f.id g.id before)) fs all)

-- what is before the first is not found
pub not_earlier : (id : Rid) (f : Feature) (fs : List Feature) → All (Before f) fs → is_before id f.id ≡ true → feature_at id (f ∷ fs) ≡ None
not_earlier id f fs all before =
    found_later id f fs (before_apart_back id f.id before)
    ∙ find_none (λ (g : Feature). is_same g.id id) fs (All-weaker (Before f) (λ (g : Feature). is_same g.id id ≡ false) (λ g behind. before_apart_back id g.id (before_trans id f.id g.id before behind)) fs all)

-- ---- two lists in order in which each identifier finds the same

heads_at : (b c : Bool) (x y : Feature) (xs ys : List Feature) → is_same x.id y.id ≡ b → is_same y.id x.id ≡ c → All (Before x) xs → All (Before y) ys → Some x ≡ feature_at x.id (y ∷ ys) → feature_at y.id (x ∷ xs) ≡ Some y → x ≡ y
heads_at true c x y xs ys is back all others here there = same_Some x y (sym (rw is refl) ∙ there)
heads_at false true x y xs ys is back all others here there = same_Some x y (here ∙ rw back refl)
heads_at false false x y xs ys is back all others here there =
    let behind : is_before x.id y.id ≡ true = found_among (λ (g : Feature). is_same g.id y.id) (Before x) xs y all (sym (found_later y.id x xs is) ∙ there) in
    let before : is_before y.id x.id ≡ true = found_among (λ (g : Feature). is_same g.id x.id) (Before y) ys x others (sym (found_later x.id y ys back) ∙ sym here) in
    absurd (not_both x.id y.id behind before)

tails_at : (b : Bool) (id : Rid) (x y : Feature) (xs ys : List Feature) → is_same x.id id ≡ b → is_same y.id id ≡ b → All (Before x) xs → All (Before y) ys → feature_at id (x ∷ xs) ≡ feature_at id (y ∷ ys) → feature_at id xs ≡ feature_at id ys
tails_at true id x y xs ys is back all others h = not_later id x xs all is ∙ sym (not_later id y ys others back)
tails_at false id x y xs ys is back all others h = sym (found_later id x xs is) ∙ h ∙ found_later id y ys back

pub same_features : (xs ys : List Feature) → IsInOrder xs → IsInOrder ys → ((id : Rid) → feature_at id xs ≡ feature_at id ys) → xs ≡ ys
same_features [] [] order others h = refl
same_features [] (y ∷ ys) order others h = absurd (none-some y (h y.id ∙ found_first y ys))
same_features (x ∷ xs) [] order others h = absurd (none-some x (sym (h x.id) ∙ found_first x xs))
same_features (x ∷ xs) (y ∷ ys) order others h =
    let first : x ≡ y = heads_at (is_same x.id y.id) (is_same y.id x.id) x y xs ys refl refl order.0 others.0 (sym (found_first x xs) ∙ h x.id) (h y.id ∙ found_first y ys) in
    let rest : xs ≡ ys = same_features xs ys order.1 others.1 (λ id. tails_at (is_same x.id id) id x y xs ys refl (ap (λ (f : Feature). is_same f.id id) (sym first)) order.0 others.0 (h id)) in
    cc

-- each feature is found
pub each_found : (fs : List Feature) → IsInOrder fs → All (λ f. feature_at f.id fs ≡ Some f) fs
each_found [] order = All-nil (λ (f : Feature). feature_at f.id [] ≡ Some f)
each_found (f ∷ fs) order =
    All-cons (λ (g : Feature). feature_at g.id (f ∷ fs) ≡ Some g) f fs (found_first f fs)
    (λ k d lt. found_later (get_or fs k d).id f fs (before_apart f.id (get_or fs k d).id (order.0 k d lt)) ∙ each_found fs order.1 k d lt)
