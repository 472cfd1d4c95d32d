-- What a caller knows behind the tests that it can make.
use Rattle.std.proofs.Common.{◌≡◌, ℕ, ◌<◌, ◌≤◌, Bool, true, false, ◌&&◌, ◌||◌, List, [], ◌∷◌, length, get_or, Option, Some, None, refl, arith}
use Rattle.std.specs.Prelude.{zero, suc, ◌==◌, if◌then◌else◌, is_some, All}
use Rattle.std.specs.List.{list_any}
use Rattle.std.specs.Option.{option_or}
use Rattle.feature_values.specs.declared.feature.Rid.{Rid}
use Rattle.lock_table.specs.declared.id.LockId.{LockId}
use Rattle.lock_table.specs.declared.words.LockStatus.TheVariants.{Live, NeverGiven, Expired}
use Rattle.lock_table.specs.Lock.{Lock, Locks}
use Rattle.lock_table.specs.Held.{first_of, holder, first_held, is_live, has_number, is_live_number, was_never_given, status}

first_is_free : (o : Option ℕ) (f : Rid) (rest : Option Rid) → option_or (if is_some o then Some f else None) rest ≡ None → o ≡ None
first_is_free None f rest e = refl
first_is_free (Some n) f rest e = absurd (let bad = e in cc)

others_are_free : (o : Option ℕ) (f : Rid) (rest : Option Rid) → option_or (if is_some o then Some f else None) rest ≡ None → rest ≡ None
others_are_free None f rest e = e
others_are_free (Some n) f rest e = absurd (let bad = e in cc)

each_is_free : (locks : List Lock) (moment : ℕ) (features : List Rid) → first_held locks moment features ≡ None → (k : ℕ) (d : Rid) → k < length features → holder locks moment (get_or features k d) ≡ None
unfolding first_of
each_is_free locks moment [] e k d lt = absurd (omega (arith, lt))
each_is_free locks moment (f ∷ fs) e zero d lt = first_is_free (holder locks moment f) f (first_held locks moment fs) e
each_is_free locks moment (f ∷ fs) e (suc k) d lt = each_is_free locks moment fs (others_are_free (holder locks moment f) f (first_held locks moment fs) e) k d (omega (arith, lt))

-- where no feature is the first that is held, none is held
pub none_is_held : (locks : List Lock) (moment : ℕ) (features : List Rid) → first_held locks moment features ≡ None → All (λ f. holder locks moment f ≡ None) features
none_is_held locks moment features e = each_is_free locks moment features e

is_live_then : (a b c : Bool) → (if a then NeverGiven else (if b && c then Live else Expired)) ≡ Live → c ≡ true
is_live_then a b true e = refl
is_live_then true b false e = absurd (let bad = e in cc)
is_live_then false true false e = absurd (let bad = e in cc)
is_live_then false false false e = absurd (let bad = e in cc)

-- where an identifier stands for a live lock, its number is that of one
pub live_number : (at : Locks) (moment : ℕ) (id : LockId) → status at.opening at.given at.locks moment id ≡ Live → is_live_number at.locks moment id.number ≡ true
live_number at moment id e = is_live_then (was_never_given at.opening at.given id) (id.opening == at.opening) (is_live_number at.locks moment id.number) e

either : (a b c d : Bool) → (a ≡ true → c ≡ true) → (b ≡ true → d ≡ true) → (a || b) ≡ true → (c || d) ≡ true
either true b true d f g e = refl
either true b false d f g e = absurd (let bad = f refl in cc)
either false b true d f g e = refl
either false b false d f g e = g e

any_as_well : {X : Type 0} (p q : X → Bool) → ((x : X) → p x ≡ true → q x ≡ true) → (xs : List X) → list_any p xs ≡ true → list_any q xs ≡ true
any_as_well p q h [] e = e
any_as_well p q h (x ∷ xs) e = either (p x) (list_any p xs) (q x) (list_any q xs) (h x) (any_as_well p q h xs) e

-- where an identifier stands for a live lock at a moment, its number is that of one at the last moment given
pub live_number_now : (at : Locks) (moment : ℕ) (id : LockId) → status at.opening at.given at.locks moment id ≡ Live → at.last ≤ moment → is_live_number at.locks at.last id.number ≡ true
live_number_now at moment id e le =
    any_as_well (λ lock. has_number id.number lock && is_live moment lock) (λ lock. has_number id.number lock && is_live at.last lock) (λ lock live. grind (arith, live, le)) at.locks (live_number at moment id e)
