-- What becomes of a store in a command, whatever came.
use Rattle.std.specs.Prelude.{◌≡◌, ◌⊎◌, ℕ, Option, None}
use Rattle.disk_core.specs.Sides.{EveryBoth}
use Rattle.disk_core.specs.declared.disk.Disk.{Ghosts as DiskMeaning}
use Rattle.disk_core.specs.declared.pair.Pair.{Pair}
use Rattle.durable_journal.specs.Standing.{SaysWith}
use Rattle.feature_journal.specs.Faults.{NoneFell, OneRose}
use Rattle.http_requests.specs.Verdicts.{Grows, HasLegalHistory, HasEntriesOf}
use Rattle.service_session.specs.Solo.{own_seat, served_of}
use Rattle.wfs_model.specs.declared.change.Change.{Change}
use Rattle.wfs_store.specs.Held.{Held, kept_of}
use Rattle.wfs_store.specs.Stepped.{SameOpening}

-- nothing is begun, unless a disk failed
abbrev pub RestsUnless : {D : Type 0} (faults : D → ℕ) → Pair D → Option Change → Pair D → Type 0
RestsUnless faults old begun new = (begun ≡ None) ⊎ OneRose faults old new

-- Its history only grew, by entries of the one seat, in a legal order; schema, limits, opening and the side's first length stay; nothing is begun,
-- unless something was or a disk failed; and no count of failures fell.
pub record GoesOn {D : Type 0} (faults : D → ℕ) (old new : Held D) : Type 0 where
  pub opening : SameOpening old new
  pub grows : Grows own_seat (served_of old) (served_of new)
  pub begun : old.begun ≡ None → RestsUnless faults old.disks new.begun new.disks
  pub count : NoneFell faults old.disks new.disks

-- ---- what always holds of the store that is left

-- A crash leaves what the history leaves, or that with the change that is begun.
abbrev pub Stands : {D : Type 0} → DiskMeaning D → Held D → Type 0
Stands mean store = EveryBoth mean.images (SaysWith store.schema (kept_of store) store.begun) store.disks

-- its history is legal
abbrev pub IsLegalStore : {D : Type 0} → Held D → Type 0
IsLegalStore store = HasLegalHistory (served_of store)

-- each entry is of the one seat, and its request is such as the schema allows
abbrev pub HasOwnEntries : {D : Type 0} → Held D → Type 0
HasOwnEntries store = HasEntriesOf own_seat (served_of store)

-- nothing is begun, unless a disk failed since the command had these disks
abbrev pub RestsSince : {D : Type 0} (faults : D → ℕ) → Pair D → Held D → Type 0
RestsSince faults disks store = RestsUnless faults disks store.begun store.disks

-- All that holds of the store that a command leaves, where it was given these disks.
pub record IsLeft {D : Type 0} (mean : DiskMeaning D) (disks : Pair D) (store : Held D) : Type 0 where
  pub legal : IsLegalStore store
  pub own : HasOwnEntries store
  pub stands : Stands mean store
  pub rests : RestsSince mean.faults disks store
  pub count : NoneFell mean.faults disks store.disks
