-- What is first behind a place.
use Rattle.std.proofs.Common.{◌≡◌, ◌<◌, ◌≤◌, Bool, true, false, cond, List, [], ◌∷◌, length, filter, Option, Some, None, find, refl, sym, ap, ◌∙◌, subst, arith}
use Rattle.std.specs.Option.{option_or}
use Rattle.std.proofs.lemmas.Bool.{false≢true}
use Rattle.std.proofs.lemmas.Option.{none-some, same_Some}
use Rattle.feature_values.specs.declared.feature.Feature.{Feature}
use Rattle.feature_values.specs.declared.feature.Rid.{Rid}
use Rattle.fes_filter.specs.View.{is_same, is_before, IsInOrder, feature_at, next_after}
use Rattle.feature_overlay.specs.First.{is_behind, IsFirst, lesser}
use Rattle.feature_overlay.proofs.Ordered.{same_is, before_trans, from_apart, not_before_itself, found_passes, found_first, found_later, not_earlier}

pub behind_trans : (after : Option Rid) (a b : Rid) → is_behind after a ≡ true → is_before a b ≡ true → is_behind after b ≡ true
behind_trans None a b h k = refl
behind_trans (Some id) a b h k = before_trans id a b h k

-- ---- the first in a list in order

pub next_is : (after : Option Rid) (fs : List Feature) → next_after after fs ≡ find (λ f. is_behind after f.id) fs
next_is None [] = refl
next_is None (f ∷ fs) = refl
next_is (Some id) fs = refl

-- look-ups that find the same behind the place
pub first_same : (after : Option Rid) (look other : Rid → Option Feature) (r : Option Feature) → ((id : Rid) → is_behind after id ≡ true → other id ≡ look id) → IsFirst after look r → IsFirst after other r
first_same after look other None same first = λ id behind. same id behind ∙ first id behind
first_same after look other (Some f) same first = (same f.id first.1 ∙ first.0, first.1, (λ id behind before. same id behind ∙ first.2 id behind before))

not_behind : (after : Option Rid) (f : Feature) (fs : List Feature) (id : Rid) (b : Bool) → is_same f.id id ≡ b → is_behind after f.id ≡ false → is_behind after id ≡ true → feature_at id (f ∷ fs) ≡ feature_at id fs
not_behind after f fs id true is out behind = absurd (false≢true (sym out ∙ ap (λ i. is_behind after i) (same_is f.id id is) ∙ behind))
not_behind after f fs id false is out behind = found_later id f fs is

first_at : (after : Option Rid) (f : Feature) (fs : List Feature) (b : Bool) (found : Option Feature) → is_behind after f.id ≡ b → IsInOrder (f ∷ fs) → IsFirst after (λ id. feature_at id fs) found → IsFirst after (λ id. feature_at id (f ∷ fs)) (cond b (Some f) found)
first_at after f fs true found is order more = (found_first f fs, is, (λ id behind before. not_earlier id f fs order.0 before))
first_at after f fs false found is order more =
    first_same after (λ id. feature_at id fs) (λ id. feature_at id (f ∷ fs)) found (λ id behind. not_behind after f fs id (is_same f.id id) refl is behind) more

first_found : (after : Option Rid) (fs : List Feature) → IsInOrder fs → IsFirst after (λ id. feature_at id fs) (find (λ f. is_behind after f.id) fs)
first_found after [] order = λ id behind. refl
first_found after (f ∷ fs) order = first_at after f fs (is_behind after f.id) (find (λ g. is_behind after g.id) fs) refl order (first_found after fs order.1)

pub next_first : (after : Option Rid) (fs : List Feature) → IsInOrder fs → IsFirst after (λ id. feature_at id fs) (next_after after fs)
next_first after fs order = subst (λ (r : Option Feature). IsFirst after (λ id. feature_at id fs) r) (sym (next_is after fs)) (first_found after fs order)

-- ---- there is one first at most

unique_at : (after : Option Rid) (look : Rid → Option Feature) (f g : Feature) (b c : Bool) → is_before f.id g.id ≡ b → is_same f.id g.id ≡ c → IsFirst after look (Some f) → IsFirst after look (Some g) → Some f ≡ Some g
unique_at after look f g true c is same h k = absurd (none-some f (sym (k.2 f.id h.1 is) ∙ h.0))
unique_at after look f g false true is same h k = sym h.0 ∙ ap look (same_is f.id g.id same) ∙ k.0
unique_at after look f g false false is same h k = absurd (none-some g (sym (h.2 g.id k.1 (from_apart f.id g.id same is)) ∙ k.0))

pub first_unique : (after : Option Rid) (look : Rid → Option Feature) (r s : Option Feature) → IsFirst after look r → IsFirst after look s → r ≡ s
first_unique after look None None h k = refl
first_unique after look None (Some g) h k = absurd (none-some g (sym (h g.id k.1) ∙ k.0))
first_unique after look (Some f) None h k = absurd (none-some f (sym (k f.id h.1) ∙ h.0))
first_unique after look (Some f) (Some g) h k = unique_at after look f g (is_before f.id g.id) (is_same f.id g.id) refl refl h k

-- ---- the first of two look-ups, of which the one decides where it finds something

up_to : (b : Bool) (id f g : Rid) → is_same f g ≡ b → is_before f g ≡ false → is_before id g ≡ true → is_before id f ≡ true
up_to true id f g same not before = subst (λ i. is_before id i ≡ true) (sym (same_is f g same)) before
up_to false id f g same not before = before_trans id g f before (from_apart f g same not)

module _ (after : Option Rid) (look kept put : Rid → Option Feature) (is : (id : Rid) → look id ≡ option_or (put id) (kept id)) where
  both_at : (b : Bool) (f g : Feature) → is_before f.id g.id ≡ b → IsFirst after kept (Some f) → IsFirst after put (Some g) → IsFirst after look (cond b (Some f) (Some g))
  both_at true f g before h k =
      (is f.id ∙ rw (k.2 f.id h.1 before) h.0, h.1, (λ id behind first. is id ∙ rw (k.2 id behind (before_trans id f.id g.id first before)) (h.2 id behind first)))
  both_at false f g before h k =
      (is g.id ∙ rw k.0 refl, k.1, (λ id behind first. is id ∙ rw (k.2 id behind first) (h.2 id behind (up_to (is_same f.id g.id) id f.id g.id refl before first))))

  pub lesser_first : (f g : Option Feature) → IsFirst after kept f → IsFirst after put g → IsFirst after look (lesser f g)
  lesser_first None None h k = λ id behind. is id ∙ rw (k id behind) (h id behind)
  lesser_first None (Some g) h k = (is g.id ∙ rw k.0 refl, k.1, (λ id behind first. is id ∙ rw (k.2 id behind first) (h id behind)))
  lesser_first (Some f) None h k = (is f.id ∙ rw (k f.id h.1) h.0, h.1, (λ id behind first. is id ∙ rw (k id behind) (h.2 id behind first)))
  lesser_first (Some f) (Some g) h k = both_at (is_before f.id g.id) f g refl h k

-- ---- a walk from place to place

-- the place is not before the one where the walk began, and nothing is found between them
pub record Walked (after place : Option Rid) (kept : Rid → Option Feature) : Type 0 where
  pub within : (id : Rid) → is_behind place id ≡ true → is_behind after id ≡ true
  pub passed : (id : Rid) → is_behind after id ≡ true → is_behind place id ≡ false → kept id ≡ None

pub walk_begins : (after : Option Rid) (kept : Rid → Option Feature) → Walked after after kept
walk_begins after kept = record { within = λ id behind. behind; passed = λ id behind out. absurd (false≢true (sym out ∙ behind)) }

-- what a list has, or less
module _ (look kept : Rid → Option Feature) (fewer : (id : Rid) → look id ≡ None → kept id ≡ None) (after place : Option Rid) where
  passed_at : (f : Feature) (id : Rid) (b c : Bool) → is_behind place id ≡ b → is_same f.id id ≡ c → Walked after place kept → IsFirst place look (Some f) → kept f.id ≡ None → is_behind after id ≡ true → is_before f.id id ≡ false → kept id ≡ None
  passed_at f id false c at same so_far first none behind out = so_far.passed id behind at
  passed_at f id true true at same so_far first none behind out = subst (λ i. kept i ≡ None) (same_is f.id id same) none
  passed_at f id true false at same so_far first none behind out = fewer id (first.2 id at (from_apart f.id id same out))

  pub walk_passes : (f : Feature) → Walked after place kept → IsFirst place look (Some f) → kept f.id ≡ None → Walked after (Some f.id) kept
  walk_passes f so_far first none = record {
    within = λ id behind. so_far.within id (behind_trans place f.id id first.1 behind);
    passed = λ id behind out. passed_at f id (is_behind place id) (is_same f.id id) refl refl so_far first none behind out;
  }

  before_at : (f : Feature) (id : Rid) (b : Bool) → is_behind place id ≡ b → Walked after place kept → IsFirst place look (Some f) → is_behind after id ≡ true → is_before id f.id ≡ true → kept id ≡ None
  before_at f id true at so_far first behind before = fewer id (first.2 id at before)
  before_at f id false at so_far first behind before = so_far.passed id behind at

  pub walk_finds : (f : Feature) → Walked after place kept → IsFirst place look (Some f) → kept f.id ≡ Some f → IsFirst after kept (Some f)
  walk_finds f so_far first here = (here, so_far.within f.id first.1, (λ id behind before. before_at f id (is_behind place id) refl so_far first behind before))

  none_at : (id : Rid) (b : Bool) → is_behind place id ≡ b → Walked after place kept → IsFirst place look None → is_behind after id ≡ true → kept id ≡ None
  none_at id true at so_far first behind = fewer id (first id at)
  none_at id false at so_far first behind = so_far.passed id behind at

  pub walk_ends : Walked after place kept → IsFirst place look None → IsFirst after kept None
  walk_ends so_far first = λ id behind. none_at id (is_behind place id) refl so_far first behind

-- ---- it ends

module _ {X : Type 0} (p q : X → Bool) (fewer : (x : X) → q x ≡ true → p x ≡ true) where
  more_at : (x : X) (xs ys : List X) (b c : Bool) → p x ≡ b → q x ≡ c → length ys ≤ length xs → length (cond c (x ∷ ys) ys) ≤ length (cond b (x ∷ xs) xs)
  more_at x xs ys true true h k le = omega (arith, le)
  more_at x xs ys true false h k le = omega (arith, le)
  more_at x xs ys false true h k le = absurd (false≢true (sym h ∙ fewer x k))
  more_at x xs ys false false h k le = le

  none_more : (xs : List X) → length (filter q xs) ≤ length (filter p xs)
  none_more [] = omega arith
  none_more (x ∷ xs) = more_at x (filter p xs) (filter q xs) (p x) (q x) refl refl (none_more xs)

  fewer_at : (x y : X) (found : Option X) (xs ys : List X) (b c : Bool) → p x ≡ b → q x ≡ c → q y ≡ false → length ys ≤ length xs → (found ≡ Some y → length ys < length xs) → cond b (Some x) found ≡ Some y → length (cond c (x ∷ ys) ys) < length (cond b (x ∷ xs) xs)
  fewer_at x y found xs ys true true h k out le more is = absurd (false≢true (sym out ∙ ap q (sym (same_Some x y is)) ∙ k))
  fewer_at x y found xs ys true false h k out le more is = omega (arith, le)
  fewer_at x y found xs ys false true h k out le more is = absurd (false≢true (sym h ∙ fewer x k))
  fewer_at x y found xs ys false false h k out le more is = more is

  pub fewer_pass : (y : X) → q y ≡ false → (xs : List X) → find p xs ≡ Some y → length (filter q xs) < length (filter p xs)
  fewer_pass y out [] found = absurd (none-some y found)
  fewer_pass y out (x ∷ xs) found = fewer_at x y (find p xs) (filter p xs) (filter q xs) (p x) (q x) refl refl out (none_more xs) (fewer_pass y out xs) found

abbrev pub behind : Option Rid → List Feature → List Feature
behind after features = filter (λ f. is_behind after f.id) features

pub place_falls : (after : Option Rid) (fs : List Feature) (f : Feature) → Some f ≡ next_after after fs → length (behind (Some f.id) fs) < length (behind after fs)
place_falls after fs f at =
    let found : find (λ g. is_behind after g.id) fs ≡ Some f = sym (at ∙ next_is after fs) in
    let here : is_behind after f.id ≡ true = found_passes (λ (g : Feature). is_behind after g.id) fs f found in
    fewer_pass (λ (g : Feature). is_behind after g.id) (λ (g : Feature). is_before f.id g.id) (λ g k. behind_trans after f.id g.id here k) f (not_before_itself f.id) fs found
