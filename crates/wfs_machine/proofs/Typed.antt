-- The identifiers of the features of a type.
use Rattle.std.proofs.Common.{◌≡◌, ℕ, suc, Bool, true, false, cond, List, [], ◌∷◌, filter, refl, arith}
use Rattle.std.specs.Prelude.{All, Contains, IsTrue, not}
use Rattle.std.proofs.lemmas.Bool.Decides.{nat_tests}
use Rattle.std.proofs.lemmas.List.Elements.{All-nil, All-cons, All-head, All-tail, All-weaker}
use Rattle.feature_values.specs.declared.feature.Feature.{Feature}
use Rattle.feature_values.specs.declared.feature.Rid.{Rid}
use Rattle.geom_core.specs.Plane.{Bounds}
use Rattle.fes_filter.specs.View.{is_same, IsInOrder, IsOnce, is_near, HasAllNear}
use Rattle.query_core.specs.Selecting.{ids_of}
use Rattle.feature_overlay.proofs.Ordered.{Before}
use Rattle.wfs_machine.specs.Ordered.{of_type}

abbrev pub ids_typed : ℕ → List Feature → List Rid
ids_typed kind fs = ids_of (filter (of_type kind) fs)

-- ---- all are there

abbrev IsListed : ℕ → List Rid → Feature → Type 0
IsListed kind ids f = of_type kind f ≡ true → Contains ids f.id

more_at : (b : Bool) (f : Feature) (found : List Feature) (id : Rid) → Contains (ids_of found) id → Contains (ids_of (cond b (f ∷ found) found)) id
more_at true f found id more = (suc more.0, omega (arith, more.1), more.2)
more_at false f found id more = more

first_at : (b : Bool) (f : Feature) (found : List Feature) → b ≡ true → Contains (ids_of (cond b (f ∷ found) found)) f.id
first_at true f found is = (0, omega arith, refl)
first_at false f found is = absurd (let bad = is in cc)

all_listed : (kind : ℕ) (fs : List Feature) → All (IsListed kind (ids_typed kind fs)) fs
all_listed kind [] = All-nil (IsListed kind [])
all_listed kind (f ∷ fs) =
    let found = filter (of_type kind) fs in
    All-cons (IsListed kind (ids_typed kind (f ∷ fs))) f fs (first_at (of_type kind f) f found)
    (All-weaker (IsListed kind (ids_of found)) (IsListed kind (ids_typed kind (f ∷ fs))) (λ g listed is. more_at (of_type kind f) f found g.id (listed is)) fs (all_listed kind fs))

near_is_of_type : (kind : ℕ) (area : Bounds) (f : Feature) → IsTrue (is_near kind area f) → of_type kind f ≡ true
near_is_of_type kind area f h = grind (arith, nat_tests, h)

pub has_all_near : (kind : ℕ) (area : Bounds) (fs : List Feature) → HasAllNear kind area fs (ids_typed kind fs)
has_all_near kind area fs =
    All-weaker (IsListed kind (ids_typed kind fs)) (λ f. IsTrue (is_near kind area f) → Contains (ids_typed kind fs) f.id) (λ f listed near. listed (near_is_of_type kind area f near)) fs (all_listed kind fs)

-- ---- each is there once

abbrev Apart : Rid → Rid → Type 0
Apart id other = IsTrue (not (is_same id other))

before_is_apart : (f g : Feature) → Before f g → Apart f.id g.id
before_is_apart f g h = grind (arith, nat_tests, h)

apart_at : (b : Bool) (id : Rid) (g : Feature) (found : List Feature) → Apart id g.id → All (Apart id) (ids_of found) → All (Apart id) (ids_of (cond b (g ∷ found) found))
apart_at true id g found apart all = All-cons (Apart id) g.id (ids_of found) apart all
apart_at false id g found apart all = all

all_apart : (kind : ℕ) (f : Feature) (fs : List Feature) → All (Before f) fs → All (Apart f.id) (ids_typed kind fs)
all_apart kind f [] all = All-nil (Apart f.id)
all_apart kind f (g ∷ fs) all = apart_at (of_type kind g) f.id g (filter (of_type kind) fs) (before_is_apart f g (All-head (Before f) g fs all)) (all_apart kind f fs (All-tail (Before f) g fs all))

once_at : (b : Bool) (f : Feature) (found : List Feature) → All (Apart f.id) (ids_of found) → IsOnce (ids_of found) → IsOnce (ids_of (cond b (f ∷ found) found))
once_at true f found apart once = (apart, once)
once_at false f found apart once = once

pub each_once : (kind : ℕ) (fs : List Feature) → IsInOrder fs → IsOnce (ids_typed kind fs)
each_once kind [] order = tt
each_once kind (f ∷ fs) order = once_at (of_type kind f) f (filter (of_type kind) fs) (all_apart kind f fs order.0) (each_once kind fs order.1)
