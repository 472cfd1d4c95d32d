-- What a start of the store on two disks comes to, with the limits that are stated.
use Rattle.std.specs.Prelude.{◌≡◌, ◌⊎◌, ℕ, List, All, length, Some}
use Rattle.disk_core.specs.declared.disk.Disk.{Ghosts as DiskMeaning}
use Rattle.disk_core.specs.declared.pair.Pair.{Pair}
use Rattle.durable_journal.specs.declared.fault.OpenFault.{OpenFault}
use Rattle.durable_journal.specs.declared.fault.OpenFault.TheVariants.{DiskFault}
use Rattle.durable_journal.specs.Current.{HoldsSome}
use Rattle.durable_journal.specs.Opened.{IsOfBytes, IsRefusal}
use Rattle.durable_journal.specs.OpenedSide.{IsOpenedSide}
use Rattle.durable_journal.specs.Standing.{ComeTo, SaysOpened}
use Rattle.feature_journal.specs.Faults.{NoneFell, OneRose}
use Rattle.feature_journal.specs.Nothing.{Nothing, Unmade}
use Rattle.feature_journal.specs.Whole.{Says}
use Rattle.feature_values.specs.declared.schema.Schema.{Schema}
use Rattle.journal_replay.specs.Replayed.{verdict_on}
use Rattle.recovery.specs.Crash.{AfterSync, WithTail}
use Rattle.recovery.specs.Looked.{Untouched}
use Rattle.recovery.specs.Outcome.{Outcome, outcome_of}
use Rattle.wfs_model.specs.declared.limits.Limits.{Limits}
use Rattle.wfs_model.specs.State.{Durable, nothing}
use Rattle.wfs_ends.specs.Ends.{Shown}
use Rattle.wfs_store.specs.Held.{Held}
use Rattle.wfs_store.specs.Started.{HasBegun, OpensOn}
use Rattle.wfsd_commands.specs.declared.done.Done.{Done}
use Rattle.wfsd_commands.specs.Early.{EndsSaying}
use Rattle.wfsd_commands.specs.Statuses.{unopened_line, unopened_status}

-- how long a side may be
abbrev pub stated_side : ℕ
stated_side = 268_435_456

-- the limits that each command has
pub record AreStated (limits : Limits) : Type 0 where
  pub entries : limits.entries ≡ 1_000_000
  pub bytes : limits.bytes ≡ 268_435_456
  pub features : limits.features ≡ 1_000_000
  pub ids : limits.ids ≡ 1_000_000_000_000
  pub locks : limits.locks ≡ 65_536
  pub stored : limits.stored ≡ 1_000
  pub side : limits.side ≡ stated_side

-- what the bytes of two files come to, read with a schema
abbrev pub outcome_on : Schema → List ℕ → List ℕ → Outcome
outcome_on schema a b = outcome_of (verdict_on schema) stated_side a b

-- of what two disks show, where both tell
abbrev pub OfShown : {D : Type 0} → DiskMeaning D → Pair D → (List ℕ → List ℕ → Type 0) → Type 0
OfShown mean disks P = (a b : List ℕ) → mean.shown disks.a ≡ Some a → mean.shown disks.b ≡ Some b → P a b

-- until both files are synced a crash leaves what a crash before might have left, and from then on only this
abbrev pub LeavesAfterSync : {D : Type 0} → DiskMeaning D → (List ℕ → List ℕ → Type 0) → Pair D → Pair D → Type 0
LeavesAfterSync mean P old new = AfterSync mean.shown mean.moment mean.since mean.images P old new

-- What a crash may leave while a store is started on files that say something: that, with the record behind it whose gate is closed or
-- without, or it with the next opening. On files that were never made it is nothing, or the first opening.
pub record OpensSafely {D : Type 0} (mean : DiskMeaning D) (schema : Schema) (old new : Pair D) : Type 0 where
  pub goes : (lists : List (List (List ℕ))) (kept : Durable) → OfShown mean old (λ a b. (says : Says lists a b) → All (ComeTo schema kept) lists
      → LeavesAfterSync mean (λ x y. WithTail lists says x y ⊎ SaysOpened schema kept x y) old new)
  pub first : OfShown mean old (λ a b. Unmade a → Unmade b → LeavesAfterSync mean (λ x y. Nothing x y ⊎ SaysOpened schema (nothing (length schema.types)) x y) old new)
  pub count : NoneFell mean.faults old new

-- A store was started: its opening is the next one of what the two files come to, and it has no history. Its disks hold a list on the side that it
-- counts as the current one, with its generation. Where both tell, which side that is, how long it is and what it holds follow from what the two
-- files come to, so a store whose journal was made shorter since then is none that was started.
pub record IsStarted {D : Type 0} (mean : DiskMeaning D) (schema : Schema) (old : Pair D) (store : Held D) : Type 0 where
  pub limits : AreStated store.limits
  pub begun : HasBegun schema store.limits store
  pub opens : OfShown mean old (λ a b. OpensOn schema (outcome_on schema a b) store.opening)
  pub current : HoldsSome mean.images store.current store.disks
  pub side : OfShown mean old (λ a b. IsOpenedSide mean.images schema (outcome_on schema a b) store.current store.side store.disks)
  pub safely : OpensSafely mean schema old store.disks

-- A store was not started: a refusal of the bytes is the first that they meet, and nothing was written; a disk's fault has its cause.
pub record IsNotStarted {D : Type 0} (mean : DiskMeaning D) (schema : Schema) (old : Pair D) (fault : OpenFault) (new : Pair D) : Type 0 where
  pub refused : OfShown mean old (λ a b. IsRefusal schema stated_side (outcome_on schema a b) fault)
  pub unwritten : IsOfBytes fault → Untouched mean.shown mean.moment mean.since mean.images old new
  pub safely : OpensSafely mean schema old new
  pub cause : fault ≡ DiskFault → OneRose mean.faults old new

-- The store was not started: its fault gives the status and the line.
pub record EndsUnopened {D : Type 0} (mean : DiskMeaning D) (schema : Schema) (disks : Pair D) (old : Shown) (done : Done D) (new : Shown) : Type 0 where
  pub fault : OpenFault
  pub left : Pair D
  pub not_started : IsNotStarted mean schema disks fault left
  pub ends : EndsSaying (unopened_status fault) (unopened_line fault) left old done new
