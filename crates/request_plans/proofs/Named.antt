-- A lock that is named is live.
use Rattle.std.proofs.Common.{◌≡◌, ℕ, ◌≤◌, Bool, true, false, List, [], ◌∷◌, Ok, refl, subst, arith}
use Rattle.std.specs.Prelude.{IsTrue, ◌&&◌, ◌||◌}
use Rattle.lock_table.specs.declared.id.LockId.{LockId}
use Rattle.lock_table.specs.declared.words.LockStatus.{LockStatus}
use Rattle.lock_table.specs.declared.words.LockStatus.TheVariants.{Live, NeverGiven, Expired}
use Rattle.lock_table.specs.Lock.{Lock, Locks}
use Rattle.lock_table.specs.Held.{is_live, has_number, is_live_number, status}
use Rattle.lock_table.proofs.Callers.{live_number}
use Rattle.wfs_model.specs.Locking.{number_by, named}
use Rattle.wfs_model.specs.State.{State}

either : (a b c d : Bool) → (a ≡ true → c ≡ true) → (b ≡ true → d ≡ true) → (a || b) ≡ true → (c || d) ≡ true
either true b true d f g e = refl
either true b false d f g e = absurd (let bad = f refl in cc)
either false b true d f g e = refl
either false b false d f g e = g e

earlier : (early late number : ℕ) (lock : Lock) → early ≤ late → (has_number number lock && is_live late lock) ≡ true → (has_number number lock && is_live early lock) ≡ true
earlier early late number lock le live = grind (arith, live, le)

-- a lock that is live at a moment was so earlier
pub is_live_earlier : (locks : List Lock) (early late number : ℕ) → early ≤ late → is_live_number locks late number ≡ true → is_live_number locks early number ≡ true
is_live_earlier [] early late number le h = h
is_live_earlier (lock ∷ locks) early late number le h =
    either (has_number number lock && is_live late lock) (is_live_number locks late number) (has_number number lock && is_live early lock) (is_live_number locks early number)
    (earlier early late number lock le) (is_live_earlier locks early late number le) h

pub number_is : (id : LockId) (found : LockStatus) (number : ℕ) → number_by id found ≡ Ok number → (found ≡ Live) × (id.number ≡ number)
number_is id Live number e = (refl, cc)
number_is id NeverGiven number e = absurd cc
number_is id Expired number e = absurd cc

-- the table of a state
abbrev table_of : State → Locks
table_of state = record { locks = state.locks; opening = state.opening; given = state.given; last = 0; spare = 0; kept = 0; listed = 0; mapped = 0 }

pub named_is_live : (state : State) (moment : ℕ) (id : LockId) (number : ℕ) → named state moment id ≡ Ok number → IsTrue (is_live_number state.locks moment number)
unfolding named
named_is_live state moment id number e =
    let found = number_is id (status state.opening state.given state.locks moment id) number e in
    subst (λ (n : ℕ). IsTrue (is_live_number state.locks moment n)) found.1 (live_number (table_of state) moment id found.0)

-- the same of the identifier, whose number it is
pub id_is_live : (state : State) (moment : ℕ) (id : LockId) (number : ℕ) → named state moment id ≡ Ok number → IsTrue (is_live_number state.locks moment id.number)
unfolding named
id_is_live state moment id number e =
    live_number (table_of state) moment id (number_is id (status state.opening state.given state.locks moment id) number e).0
