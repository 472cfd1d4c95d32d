-- What no turn changes of a store, and what goes on to hold of it.
use Rattle.std.specs.Prelude.{◌≡◌, ◌≢◌, ℕ, ◌-◌, List, length, get_or, sum, refl, None}
use Rattle.std.proofs.Common.{inl, zero-le, le_refl, le_of_eq, le_trans, sub-eq-zero_of_le}
use Rattle.feature_journal.specs.Faults.{NoneFell, OneRose}
use Rattle.service_session.specs.Became.{HaveFailed}
use Rattle.wfs_model.specs.declared.entry.Entry.{Entry}
use Rattle.wfs_store.specs.Held.{Held}
use Rattle.wfs_store.specs.Past.{IsHistory}
use Rattle.wfs_store.specs.Stepped.{SameOpening}

-- the history is legal from the opening on, and its requests are such as the schema allows
abbrev pub HasLegalHistory : {D : Type 0} → Held D → Type 0
HasLegalHistory held = IsHistory held.schema held.opening held.entries

-- how many steps of a seat ended in a store fault, up to the last number of 64 bits
abbrev pub tally_of : {D : Type 0} → Held D → ℕ → ℕ
tally_of held seat = get_or held.tally seat 0

-- how many steps of all seats together did, where each seat's are counted up to there
abbrev pub tallied_in : {D : Type 0} → Held D → ℕ
tallied_in held = sum held.tally

-- the opening of a store, with another history
abbrev pub having : {D : Type 0} → Held D → List Entry → Held D
having first entries = record first { entries = entries }

-- the opening is the same, whatever was done since
pub record StaysOpen {D : Type 0} (faults : D → ℕ) (old new : Held D) : Type 0 where
  pub same : SameOpening old new
  pub legal : HasLegalHistory old → HasLegalHistory new
  -- no count of failures fell
  pub count : NoneFell faults old.disks new.disks
  -- the tallies have together risen by no more than the disks' counts of failures, unless a count stands at its last value
  pub caused : HaveFailed faults old.disks (tallied_in new - tallied_in old) new.disks
  -- nothing is begun where nothing was, unless a count of failures rose
  pub begun : old.begun ≡ None → (OneRose faults old.disks new.disks → ⊥) → new.begun ≡ None
  -- a tally is kept for as many seats
  pub seats : length new.tally ≡ length old.tally

-- a store has its own opening
abbrev pub stays_open : {D : Type 0} (faults : D → ℕ) (held : Held D) → StaysOpen faults held held
stays_open faults held = record {
  same = record { schema = refl; limits = refl; opening = refl; side = refl; current = refl };
  legal = λ legal. legal;
  count = (le_refl (faults held.disks.a), le_refl (faults held.disks.b));
  caused = inl (le_trans (le_of_eq (sub-eq-zero_of_le (le_refl (tallied_in held)))) zero-le);
  begun = λ none calm. none;
  seats = refl;
}

-- what a step of one seat is to the others: their tallies stay, and so does each opening that the store had
pub record IsOneOf {D : Type 0} (faults : D → ℕ) (old : Held D) (seat : ℕ) (new : Held D) : Type 0 where
  pub others : (n : ℕ) → n ≢ seat → tally_of new n ≡ tally_of old n
  pub opening : (first : Held D) → StaysOpen faults first old → StaysOpen faults first new
