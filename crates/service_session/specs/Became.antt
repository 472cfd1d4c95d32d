-- What has become of a store behind a session of seat 0.
use Rattle.std.specs.Prelude.{◌≡◌, ◌⊎◌, ℕ, ◌+◌, ◌-◌, ◌<◌, ◌≤◌, List, length, get_or, Option, None}
use Rattle.disk_core.specs.declared.pair.Pair.{Pair}
use Rattle.durable_journal.specs.Standing.{SaysEither}
use Rattle.feature_journal.specs.Faults.{NoneFell, OneRose}
use Rattle.http_requests.specs.Verdicts.{IsEntryOf, Grows}
use Rattle.service_session.specs.declared.ending.SessionEnd.{SessionEnd}
use Rattle.service_session.specs.Session.{IsHeld}
use Rattle.service_session.specs.Solo.{own_seat, served_of, TakesSteps, store_meaning}
use Rattle.service_session.specs.Told.{answers_of, store_faults}
use Rattle.wfs_ends.specs.Ends.{Shown, last_count}
use Rattle.wfs_model.specs.declared.change.Change.{Change}
use Rattle.wfs_model.specs.declared.entry.Entry.{Entry}
use Rattle.wfs_store.specs.Held.{Held, kept_of}
use Rattle.wfs_store.specs.Stepped.{SameOpening, change_by}

-- What is begun is nothing, or what was begun before, unless a disk's count of failures rose.
abbrev pub LeavesBegun : {D : Type 0} (faults : D → ℕ) (old new : Held D) → Type 0
LeavesBegun faults old new = ((new.begun ≡ None) ⊎ (new.begun ≡ old.begun)) ⊎ OneRose faults old.disks new.disks

-- A tally has so many more for seat 0, unless it stands at the last number of 64 bits, and as many as before for each other seat.
pub record IsTallied (old : List ℕ) (number : ℕ) (new : List ℕ) : Type 0 where
  pub size : length new ≡ length old
  pub own : 0 < length old → (get_or new own_seat 0 ≡ get_or old own_seat 0 + number) ⊎ (last_count ≤ get_or new own_seat 0)
  pub others : (seat : ℕ) → (seat ≡ own_seat → ⊥) → get_or new seat 0 ≡ get_or old seat 0

-- Two disks counted so many failures or more, unless a count stands at its last value.
abbrev pub HaveFailed : {D : Type 0} (faults : D → ℕ) (old : Pair D) (number : ℕ) (new : Pair D) → Type 0
HaveFailed faults old number new =
    (number ≤ (faults new.a - faults old.a) + (faults new.b - faults old.b)) ⊎ ((last_count ≤ faults new.a) ⊎ (last_count ≤ faults new.b))

-- Its history only grew, by entries of seat 0, in a legal order; schema, limits, opening and the side's first length stay; what is begun is told;
-- some steps ended in a store fault, which the tally has and for each of which a disk had failed; and no count of failures fell.
pub record StoreBecomes {D : Type 0} (faults : D → ℕ) (old new : Held D) : Type 0 where
  pub grows : Grows own_seat (served_of old) (served_of new)
  pub opening : SameOpening old new
  pub begun : LeavesBegun faults old new
  pub number : ℕ
  pub tallied : IsTallied old.tally number new.tally
  pub caused : HaveFailed faults old.disks number new.disks
  pub count : NoneFell faults old.disks new.disks

-- Its tally has one more for each answer that was a store fault, however the session is told.
abbrev pub TalliesAnswers : {D : Type 0} (time : D → ℕ) (since : D → ℕ → List ℕ → Type 0) (faults : D → ℕ) (old : Held D) (before : Shown) (end : SessionEnd) (new : Held D) (clock : Option (List ℕ)) (after : Shown) → Type 0
TalliesAnswers time since faults old before end new clock after =
    (input moments : List ℕ) (held : IsHeld (store_meaning time since faults) input moments old before end new clock after)
    → IsTallied old.tally (store_faults (answers_of (store_meaning time since faults) input moments old before end new clock after held)) new.tally

-- what may be in work at a store: nothing, or the change that an entry of seat 0 makes there
abbrev pub MayBeInWork : {D : Type 0} → Held D → Option Change → Type 0
MayBeInWork held work = (work ≡ None) ⊎ ((entry : Entry) × IsEntryOf own_seat held.schema entry × (work ≡ change_by held entry))

-- What a crash may leave at a moment of a session: the store had come so far by steps, and went on by steps; and the files hold what its history
-- up to there leaves, or that with the change that was begun there, or with the one in work.
pub record SaysOnTheWay {D : Type 0} (time : D → ℕ) (since : D → ℕ → List ℕ → Type 0) (faults : D → ℕ) (old new : Held D) (a b : List ℕ) : Type 0 where
  pub at : Held D
  pub came : TakesSteps time since faults old at
  pub goes_on : TakesSteps time since faults at new
  pub work : Option Change
  pub in_work : MayBeInWork at work
  pub says : SaysEither at.schema (kept_of at) at.begun work a b
