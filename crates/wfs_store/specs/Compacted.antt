-- What making the journal shorter comes to.
use Rattle.std.specs.Prelude.{◌≡◌, ◌⊎◌, ℕ, List, None, Result, Ok, Err}
use Rattle.checkpoints.specs.declared.fault.CompactFault.{CompactFault}
use Rattle.checkpoints.specs.declared.fault.CompactFault.TheVariants as compacting
use Rattle.checkpoints.specs.Length.{side_length, Passes}
use Rattle.disk_core.specs.Sides.{Always}
use Rattle.durable_journal.specs.Current.{HoldsCheckpoint, turned}
use Rattle.durable_journal.specs.Opened.{checkpoint_bodies}
use Rattle.durable_journal.specs.Standing.{SaysWith}
use Rattle.feature_journal.specs.Faults.{NoneFell, OneRose}
use Rattle.wfs_ends.specs.Ends.{last_count}
use Rattle.wfs_model.specs.declared.limits.FullAt.{FullAt}
use Rattle.wfs_model.specs.declared.limits.LimitName.TheVariants.{Side}
use Rattle.wfs_store.specs.declared.fault.StepFault.{StepFault}
use Rattle.wfs_store.specs.declared.fault.StepFault.TheVariants.{StoreFault, Full, OutOfMemory}
use Rattle.wfs_store.specs.Held.{Held, kept_of}

-- a refused checkpoint, as a fault of the store: what is full is the side
abbrev pub from_compaction : CompactFault → StepFault
from_compaction compacting.DiskFault = StoreFault
from_compaction (compacting.Full sum) = Full (record { limit = Side; number = sum })
from_compaction compacting.OutOfMemory = OutOfMemory

-- the bodies of a checkpoint of what a store holds
abbrev pub checkpoint_in : {D : Type 0} → Held D → List (List ℕ)
checkpoint_in held = checkpoint_bodies held.schema (kept_of held)

-- The side is as long as the checkpoint, or, after a fault, as before.
abbrev pub Sided : {D : Type 0} → Held D → Result (Unit {0}) StepFault → Held D → Type 0
Sided old (Ok done) new = new.side ≡ side_length (checkpoint_in old)
Sided old (Err fault) new = new.side ≡ old.side

-- The other side is current, with the next generation, and the disks hold just the records of the checkpoint there.
pub record HasTurned {D : Type 0} (images : D → List ℕ → Type 0) (old new : Held D) : Type 0 where
  pub turned : new.current ≡ turned old.current
  pub holds : HoldsCheckpoint images new.current old.schema (kept_of old) new.disks

-- or, after a fault, the same side is current
abbrev pub Turned : {D : Type 0} (images : D → List ℕ → Type 0) → Held D → Result (Unit {0}) StepFault → Held D → Type 0
Turned images old (Ok done) new = HasTurned images old new
Turned images old (Err fault) new = new.current ≡ old.current

-- What was begun is ended, unless a disk failed.
abbrev pub IsEnded : {D : Type 0} → Held D → Result (Unit {0}) StepFault → Held D → Type 0
IsEnded old (Err StoreFault) new = (new.begun ≡ None) ⊎ (new.begun ≡ old.begun)
IsEnded old result new = new.begun ≡ None

-- The current generation is the last one, with its number, or the checkpoint passes the side's limit, with its length up to where it does.
abbrev pub IsFullSide : {D : Type 0} → Held D → Result (Unit {0}) StepFault → Type 0
IsFullSide old result =
    (at : FullAt) → result ≡ Err (Full at) → (at.limit ≡ Side)
    × (((old.current.generation ≡ last_count) × (at.number ≡ last_count)) ⊎ Passes old.limits.side at.number (checkpoint_in old))

-- A store whose journal is made shorter.
pub record IsCompactionOf {D : Type 0} (moment : D → ℕ) (since : D → ℕ → List ℕ → Type 0) (images : D → List ℕ → Type 0) (faults : D → ℕ) (old : Held D) (result : Result (Unit {0}) StepFault) (new : Held D) : Type 0 where
  pub same : new ≡ record old { side = new.side; current = new.current; begun = new.begun; disks = new.disks }
  pub side : Sided old result new
  pub current : Turned images old result new
  pub begun : IsEnded old result new
  pub full : IsFullSide old result
  -- at each moment a crash leaves what was kept, with what was begun or without
  pub goes : Always moment since (SaysWith old.schema (kept_of old) old.begun) old.disks new.disks
  pub count : NoneFell faults old.disks new.disks
  pub cause : result ≡ Err StoreFault → OneRose faults old.disks new.disks
