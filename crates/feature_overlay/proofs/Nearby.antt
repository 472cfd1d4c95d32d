-- The identifiers near a box: those that the view gives, without what has changed, and those of what was put.
use Rattle.std.proofs.Common.{◌≡◌, ℕ, suc, zero, ◌+◌, ◌≤◌, length, Bool, true, false, cond, not, ◌&&◌, ◌==◌, List, [], ◌∷◌, ◌++◌, filter, map, All, IsTrue, Option, Some, None, refl, sym, ap, ◌∙◌, subst, arith}
use Rattle.std.specs.Prelude.{Contains, is_some}
use Rattle.std.specs.Option.{unwrap_or}
use Rattle.std.specs.List.Sorted.{IsStrictlySortedBy}
use Rattle.std.specs.Map.{keys_of}
use Rattle.std.proofs.lemmas.Bool.{false≢true}
use Rattle.std.proofs.lemmas.Bool.Decides.{nat_tests}
use Rattle.std.proofs.lemmas.Option.{none-some, same_Some}
use Rattle.std.proofs.lemmas.List.{length-append}
use Rattle.std.proofs.lemmas.List.Elements.{All-nil, All-cons, All-head, All-tail, All-append, All-filter, All-weaker, filter_passes, Contains-append_left, Contains-append_right}
use Rattle.geom_core.specs.Plane.{Bounds}
use Rattle.feature_values.specs.declared.feature.Feature.{Feature}
use Rattle.feature_values.specs.declared.feature.Rid.{Rid}
use Rattle.fes_filter.specs.View.{is_same, IsInOrder, IsOnce, feature_at, is_near, HasAllNear}
use Rattle.feature_overlay.specs.Changed.{change_at, put_ids, AreKeyed}
use Rattle.feature_overlay.specs.Laid.{Change, id_of, all_laid}
use Rattle.feature_overlay.proofs.Ordered.{same_is, same_itself, found_among, each_found}
use Rattle.feature_overlay.proofs.Mapped.{key_order}
use Rattle.feature_overlay.proofs.Rising.{Rises, rises, none_later}
use Rattle.feature_overlay.proofs.Layings.{at_all, all_in_order}

-- ---- what a list holds

module _ {X : Type 0} where
  first_contained : (x : X) (xs : List X) → Contains (x ∷ xs) x
  first_contained x xs = (0, omega arith, refl)

  later_contained : (y : X) (xs : List X) (x : X) → Contains xs x → Contains (y ∷ xs) x
  later_contained y xs x h = (suc h.0, omega (arith, h.1), h.2)

  contained_at : (y : X) (xs : List X) (x : X) (P : Type 0) → (y ≡ x → P) → (Contains xs x → P) → Contains (y ∷ xs) x → P
  contained_at y xs x P first later (zero, lt, is) = first is
  contained_at y xs x P first later (suc k, lt, is) = later (k, omega (arith, lt), is)

  filter_at : (p : X → Bool) (b : Bool) (y : X) (kept : List X) (x : X) → p y ≡ b → p x ≡ true → y ≡ x → Contains (cond b (y ∷ kept) kept) x
  filter_at p true y kept x at passes is = subst (λ z. Contains (y ∷ kept) z) is (first_contained y kept)
  filter_at p false y kept x at passes is = absurd (false≢true (sym at ∙ ap p is ∙ passes))

  filter_more : (b : Bool) (y : X) (kept : List X) (x : X) → Contains kept x → Contains (cond b (y ∷ kept) kept) x
  filter_more true y kept x h = later_contained y kept x h
  filter_more false y kept x h = h

  filter_contained : (p : X → Bool) (xs : List X) (x : X) → p x ≡ true → Contains xs x → Contains (filter p xs) x
  filter_contained p [] x passes h = absurd (omega (arith, h.1))
  filter_contained p (y ∷ xs) x passes h =
      contained_at y xs x (Contains (filter p (y ∷ xs)) x) (λ is. filter_at p (p y) y (filter p xs) x refl passes is)
      (λ more. filter_more (p y) y (filter p xs) x (filter_contained p xs x passes more)) h

-- ---- what was put

abbrev is_put : ℕ → Change → Bool
is_put kind change = (change.0.0 == kind) && is_some change.1

abbrev ids_of : List Change → List Rid
ids_of changes = map (λ (change : Change). id_of change.0) changes

ids_more : (b : Bool) (change : Change) (kept : List Change) (id : Rid) → Contains (ids_of kept) id → Contains (ids_of (cond b (change ∷ kept) kept)) id
ids_more true change kept id h = later_contained (id_of change.0) (ids_of kept) id h
ids_more false change kept id h = h

is_put_here : (kind : ℕ) (change : Change) (f : Feature) → id_of change.0 ≡ f.id → change.1 ≡ Some f → f.id.kind ≡ kind → is_put kind change ≡ true
is_put_here kind change f same now is =
    let some : is_some change.1 ≡ true = rw now refl in
    let of : change.0.0 ≡ kind = ap (λ (id : Rid). id.kind) same ∙ is in
    rw some (grind (arith, nat_tests, of))

put_at : (kind : ℕ) (change : Change) (changes kept : List Change) (f : Feature) (b : Bool) → is_same (id_of change.0) f.id ≡ b → f.id.kind ≡ kind → (change_at f.id changes ≡ Some (Some f) → Contains (ids_of kept) f.id) → cond b (Some change.1) (change_at f.id changes) ≡ Some (Some f) → Contains (ids_of (cond (is_put kind change) (change ∷ kept) kept)) f.id
put_at kind change changes kept f true at is more found =
    let same : id_of change.0 ≡ f.id = same_is (id_of change.0) f.id at in
    let now : change.1 ≡ Some f = same_Some change.1 (Some f) found in
    rw (is_put_here kind change f same now is) (subst (λ (id : Rid). Contains (id_of change.0 ∷ ids_of kept) id) same (first_contained (id_of change.0) (ids_of kept)))
put_at kind change changes kept f false at is more found = ids_more (is_put kind change) change kept f.id (more found)

put_contained : (kind : ℕ) (changes : List Change) (f : Feature) → f.id.kind ≡ kind → change_at f.id changes ≡ Some (Some f) → Contains (put_ids kind changes) f.id
put_contained kind [] f is found = absurd (none-some (Some f) found)
put_contained kind (change ∷ changes) f is found =
    put_at kind change changes (filter (is_put kind) changes) f (is_same (id_of change.0) f.id) refl is (put_contained kind changes f is) found

-- ---- all that are near

near_kind : (kind : ℕ) (area : Bounds) (f : Feature) → IsTrue (is_near kind area f) → f.id.kind ≡ kind
near_kind kind area f h = grind (arith, nat_tests, h)

abbrev NearIsHeld : ℕ → Bounds → List Rid → Feature → Type 0
NearIsHeld kind area ids f = IsTrue (is_near kind area f) → Contains ids f.id

abbrev pub unchanged : List Change → Rid → Bool
unchanged changes id = not (is_some (change_at id changes))

abbrev pub near_ids : ℕ → List Change → List Rid → List Rid
near_ids kind changes ids = filter (unchanged changes) ids ++ put_ids kind changes

near_at : (kind : ℕ) (area : Bounds) (fs : List Feature) (changes : List Change) (ids : List Rid) (f : Feature) (change : Option (Option Feature)) → change_at f.id changes ≡ change → HasAllNear kind area fs ids → unwrap_or change (feature_at f.id fs) ≡ Some f → NearIsHeld kind area (near_ids kind changes ids) f
near_at kind area fs changes ids f None at all found near =
    Contains-append_left (filter (unchanged changes) ids) (put_ids kind changes) f.id
    (filter_contained (unchanged changes) ids f.id (ap (λ o. not (is_some o)) at) (found_among (λ (g : Feature). is_same g.id f.id) (NearIsHeld kind area ids) fs f all found near))
near_at kind area fs changes ids f (Some now) at all found near =
    Contains-append_right (filter (unchanged changes) ids) (put_ids kind changes) f.id (put_contained kind changes f (near_kind kind area f near) (at ∙ ap (λ (o : Option Feature). Some o) found))

pub has_all_near : (kind : ℕ) (area : Bounds) (fs : List Feature) (changes : List Change) (ids : List Rid) → AreKeyed changes → IsInOrder fs → HasAllNear kind area fs ids → HasAllNear kind area (all_laid fs changes) (near_ids kind changes ids)
has_all_near kind area fs changes ids keyed order all =
    All-weaker (λ (f : Feature). feature_at f.id (all_laid fs changes) ≡ Some f) (NearIsHeld kind area (near_ids kind changes ids))
    (λ f found. near_at kind area fs changes ids f (change_at f.id changes) refl all (sym (at_all fs changes f.id keyed) ∙ found))
    (all_laid fs changes) (each_found (all_laid fs changes) (all_in_order fs changes keyed order))

-- ---- each once

abbrev Apart : Rid → Rid → Type 0
Apart id other = IsTrue (not (is_same id other))

once_at : (b : Bool) (id : Rid) (ids : List Rid) → All (Apart id) ids → IsOnce ids → IsOnce (cond b (id ∷ ids) ids)
once_at true id ids apart once = (apart, once)
once_at false id ids apart once = once

once_filter : (p : Rid → Bool) (ids : List Rid) → IsOnce ids → IsOnce (filter p ids)
once_filter p [] once = tt
once_filter p (id ∷ ids) once = once_at (p id) id (filter p ids) (All-filter p (Apart id) ids once.0) (once_filter p ids once.1)

once_append : (ids others : List Rid) → IsOnce ids → IsOnce others → All (λ id. All (Apart id) others) ids → IsOnce (ids ++ others)
once_append [] others once more apart = more
once_append (id ∷ ids) others once more apart =
    (All-append (Apart id) ids others once.0 (All-head (λ i. All (Apart i) others) id ids apart), once_append ids others once.1 more (All-tail (λ i. All (Apart i) others) id ids apart))

same_back : (a b : Rid) → is_same a b ≡ is_same b a
same_back a b = grind (arith, nat_tests)

ids_apart : (b : Bool) (id : Rid) (change : Change) (kept : List Change) → is_same (id_of change.0) id ≡ false → All (Apart id) (ids_of kept) → All (Apart id) (ids_of (cond b (change ∷ kept) kept))
ids_apart true id change kept at all = All-cons (Apart id) (id_of change.0) (ids_of kept) (rw (same_back id (id_of change.0), at) refl) all
ids_apart false id change kept at all = all

apart_at : (kind : ℕ) (id : Rid) (change : Change) (changes kept : List Change) (b : Bool) → is_same (id_of change.0) id ≡ b → (change_at id changes ≡ None → All (Apart id) (ids_of kept)) → cond b (Some change.1) (change_at id changes) ≡ None → All (Apart id) (ids_of (cond (is_put kind change) (change ∷ kept) kept))
apart_at kind id change changes kept true at more none = absurd (none-some change.1 (sym none))
apart_at kind id change changes kept false at more none = ids_apart (is_put kind change) id change kept at (more none)

put_apart : (kind : ℕ) (id : Rid) (changes : List Change) → change_at id changes ≡ None → All (Apart id) (put_ids kind changes)
put_apart kind id [] none = All-nil (Apart id)
put_apart kind id (change ∷ changes) none =
    apart_at kind id change changes (filter (is_put kind) changes) (is_same (id_of change.0) id) refl (put_apart kind id changes) none

put_once_at : (b : Bool) (change : Change) (kept : List Change) → All (Apart (id_of change.0)) (ids_of kept) → IsOnce (ids_of kept) → IsOnce (ids_of (cond b (change ∷ kept) kept))
put_once_at true change kept apart once = (apart, once)
put_once_at false change kept apart once = once

put_once : (kind : ℕ) (changes : List Change) → Rises changes → IsOnce (put_ids kind changes)
put_once kind [] rise = tt
put_once kind (change ∷ changes) rise =
    put_once_at (is_put kind change) change (filter (is_put kind) changes) (put_apart kind (id_of change.0) changes (none_later (id_of change.0) change.0 changes rise.0 (same_itself (id_of change.0)))) (put_once kind changes rise.1)

pub each_put_once : (kind : ℕ) (changes : List Change) → IsStrictlySortedBy key_order (keys_of changes) → IsOnce (put_ids kind changes)
each_put_once kind changes sorted = put_once kind changes (rises changes sorted)

no_change : (o : Option (Option Feature)) → not (is_some o) ≡ true → o ≡ None
no_change None h = refl
no_change (Some now) h = absurd (false≢true h)

pub near_once : (kind : ℕ) (changes : List Change) (ids : List Rid) → IsOnce ids → IsOnce (put_ids kind changes) → IsOnce (near_ids kind changes ids)
near_once kind changes ids once more =
    once_append (filter (unchanged changes) ids) (put_ids kind changes) (once_filter (unchanged changes) ids once) more
    (All-weaker (λ id. unchanged changes id ≡ true) (λ id. All (Apart id) (put_ids kind changes)) (λ id is. put_apart kind id changes (no_change (change_at id changes) is)) (filter (unchanged changes) ids) (filter_passes (unchanged changes) ids))

-- ---- how many

put_few_at : (b : Bool) (change : Change) (kept changes : List Change) → length (ids_of kept) ≤ length changes → length (ids_of (cond b (change ∷ kept) kept)) ≤ suc (length changes)
put_few_at true change kept changes le = omega (arith, le)
put_few_at false change kept changes le = omega (arith, le)

put_few : (kind : ℕ) (changes : List Change) → length (put_ids kind changes) ≤ length changes
put_few kind [] = omega arith
put_few kind (change ∷ changes) = put_few_at (is_put kind change) change (filter (is_put kind) changes) changes (put_few kind changes)

kept_few_at : (b : Bool) (id : Rid) (kept ids : List Rid) → length kept ≤ length ids → length (cond b (id ∷ kept) kept) ≤ suc (length ids)
kept_few_at true id kept ids le = omega (arith, le)
kept_few_at false id kept ids le = omega (arith, le)

kept_few : (p : Rid → Bool) (ids : List Rid) → length (filter p ids) ≤ length ids
kept_few p [] = omega arith
kept_few p (id ∷ ids) = kept_few_at (p id) id (filter p ids) ids (kept_few p ids)

pub near_few : (kind : ℕ) (changes : List Change) (ids : List Rid) (most : ℕ) → length ids ≤ most → length (near_ids kind changes ids) ≤ most + length changes
near_few kind changes ids most few =
    rw (length-append (filter (unchanged changes) ids) (put_ids kind changes)) (omega (arith, few, kept_few (unchanged changes) ids, put_few kind changes))
