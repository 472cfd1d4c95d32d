-- What a step of a store answers, and what it leaves.
use Rattle.std.specs.Prelude.{◌≡◌, ℕ, ◌+◌, List, [], ◌∷◌, ◌++◌, get_or, slice_set, min, Option, Some, None, Result, Ok, Err, ⊤}
use Rattle.disk_core.specs.Sides.{Always}
use Rattle.durable_journal.specs.Standing.{SaysEither}
use Rattle.feature_journal.specs.Faults.{NoneFell, OneRose}
use Rattle.wfs_ends.specs.Ends.{last_count}
use Rattle.wfs_model.specs.declared.change.Change.{Change}
use Rattle.wfs_model.specs.declared.entry.Entry.{Entry}
use Rattle.wfs_model.specs.declared.limits.FullAt.{FullAt}
use Rattle.wfs_model.specs.declared.reply.Reply.{Reply}
use Rattle.wfs_model.specs.Full.{full_at}
use Rattle.wfs_model.specs.History.{timed, reply_after}
use Rattle.wfs_model.specs.Played.{change_of}
use Rattle.wfs_store.specs.declared.fault.StepFault.{StepFault}
use Rattle.wfs_store.specs.declared.fault.StepFault.TheVariants.{StoreFault, Full, OutOfMemory}
use Rattle.wfs_store.specs.Held.{Held, now_of, kept_of}
use Rattle.wfs_store.specs.Kept.{body_length}
use Rattle.wfs_store.specs.Written.{begun_after, WasLeft}

-- an entry as it is taken up by a store
abbrev pub taken_up : {D : Type 0} → Held D → Entry → Entry
taken_up held entry = timed (now_of held) entry

-- the limit that an entry would pass
abbrev pub full_for : {D : Type 0} → Held D → Entry → Option FullAt
full_for held entry = full_at held.schema (body_length held.schema) held.side held.opening held.limits held.entries (taken_up held entry)

-- the change that an entry makes
abbrev pub change_by : {D : Type 0} → Held D → Entry → Option Change
change_by held entry = change_of held.schema (now_of held) (taken_up held entry).moment entry.request

-- the same schema, limits, opening and side, which is still the current one
pub record SameOpening {D : Type 0} (old new : Held D) : Type 0 where
  pub schema : new.schema ≡ old.schema
  pub limits : new.limits ≡ old.limits
  pub opening : new.opening ≡ old.opening
  pub side : new.side ≡ old.side
  pub current : new.current ≡ old.current

-- The history after a step: one entry more where it answered a reply, which is that of the step there.
abbrev pub Entered : {D : Type 0} → Held D → Entry → Result Reply StepFault → Held D → Type 0
Entered old entry (Ok reply) new =
    (new.entries ≡ old.entries ++ taken_up old entry ∷ []) × (reply ≡ reply_after old.schema old.opening old.entries (taken_up old entry))
Entered old entry (Err fault) new = new.entries ≡ old.entries

-- The limits are judged before any disk is asked: a step is full exactly where its entry would pass one, but for want of memory.
abbrev pub Limited : {D : Type 0} → Held D → Entry → Result Reply StepFault → Type 0
Limited old entry (Ok reply) = full_for old entry ≡ None
Limited old entry (Err (Full at)) = full_for old entry ≡ Some at
Limited old entry (Err StoreFault) = full_for old entry ≡ None
Limited old entry (Err OutOfMemory) = ⊤

-- What is begun after a step: after a reply nothing, where the entry made a change; after a fault nothing, what was begun before, or its change.
abbrev pub Begun : {D : Type 0} → Held D → Entry → Result Reply StepFault → Held D → Type 0
Begun old entry (Ok reply) new = new.begun ≡ begun_after (change_by old entry) old.begun
Begun old entry (Err StoreFault) new = WasLeft old.begun (change_by old entry) new.begun
Begun old entry (Err fault) new = new.begun ≡ old.begun

-- one more for a seat, up to the last number of 64 bits
abbrev pub one_more : List ℕ → ℕ → List ℕ
one_more tally seat = slice_set tally seat (min (get_or tally seat 0 + 1) last_count)

-- Store faults are counted for the seat.
abbrev pub Tallied : {D : Type 0} → Held D → Entry → Result Reply StepFault → Held D → Type 0
Tallied old entry (Err StoreFault) new = new.tally ≡ one_more old.tally entry.seat
Tallied old entry result new = new.tally ≡ old.tally

-- No disk is asked where the entry makes no change, and where it is full or memory runs out.
abbrev pub Unwritten : {D : Type 0} → Held D → Entry → Result Reply StepFault → Held D → Type 0
Unwritten old entry (Ok reply) new = change_by old entry ≡ None → new.disks ≡ old.disks
Unwritten old entry (Err StoreFault) new = change_by old entry ≡ None → ⊥
Unwritten old entry (Err fault) new = new.disks ≡ old.disks

-- A step of a store.
pub record IsStepOf {D : Type 0} (moment : D → ℕ) (since : D → ℕ → List ℕ → Type 0) (faults : D → ℕ) (old : Held D) (entry : Entry) (result : Result Reply StepFault) (new : Held D) : Type 0 where
  pub opening : SameOpening old new
  pub entered : Entered old entry result new
  pub limited : Limited old entry result
  pub begun : Begun old entry result new
  pub tallied : Tallied old entry result new
  pub unwritten : Unwritten old entry result new
  -- at each moment a crash leaves what was kept, with what was begun or without, or with the change of this entry
  pub goes : Always moment since (SaysEither old.schema (kept_of old) old.begun (change_by old entry)) old.disks new.disks
  pub count : NoneFell faults old.disks new.disks
  -- a store fault comes only where a disk's count of failures rose
  pub cause : result ≡ Err StoreFault → OneRose faults old.disks new.disks
