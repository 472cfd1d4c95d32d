-- What the commands that hold no session come to.
use Rattle.std.specs.Prelude.{◌≡◌, ◌⊎◌, ℕ, Ok, Err}
use Rattle.disk_core.specs.declared.disk.Disk.{Ghosts as DiskMeaning}
use Rattle.disk_core.specs.declared.pair.Pair.{Pair}
use Rattle.durable_journal.specs.declared.fault.OpenFault.{OpenFault}
use Rattle.durable_journal.specs.declared.fault.OpenFault.TheVariants.{DiskFault}
use Rattle.durable_journal.specs.declared.looking.Counts.{Counts}
use Rattle.durable_journal.specs.Counted.{AreCountsOf, IsRefusedBy}
use Rattle.feature_journal.specs.Faults.{NoneFell, OneRose}
use Rattle.feature_values.specs.declared.schema.Schema.{Schema}
use Rattle.program_output.specs.Lines.{GivesOr, counts_line, sides_line}
use Rattle.recovery.specs.Looked.{Untouched}
use Rattle.wfs_ends.specs.Ends.{Shown}
use Rattle.wfs_store.specs.declared.fault.StepFault.{StepFault}
use Rattle.wfs_store.specs.Compacted.{IsCompactionOf}
use Rattle.wfs_store.specs.Held.{Held}
use Rattle.wfs_store.specs.Kept.{length_after}
use Rattle.wfsd_commands.specs.declared.done.Done.{Done}
use Rattle.wfsd_commands.specs.Early.{Ends, EndsEarly, EndsSaying, HasLoaded}
use Rattle.wfsd_commands.specs.Left.{LeavesDisks, LeavesStore}
use Rattle.wfsd_commands.specs.Statuses.{EndsWith, unopened_line, unopened_status, stopped_line, stopped_status}
use Rattle.wfsd_commands.specs.Starting.{IsStarted, OfShown, outcome_on, EndsUnopened}

-- ---- check

-- Both disks read as before, and a crash leaves what it would have left; no count of failures fell.
pub record OnlyLooks {D : Type 0} (mean : DiskMeaning D) (old new : Pair D) : Type 0 where
  pub untouched : Untouched mean.shown mean.moment mean.since mean.images old new
  pub count : NoneFell mean.faults old new

-- The counts are those of what the two files come to, and stand in the line.
pub record Counted {D : Type 0} (mean : DiskMeaning D) (schema : Schema) (disks left : Pair D) (old : Shown) (done : Done D) (new : Shown) : Type 0 where
  pub counts : Counts
  pub are : OfShown mean disks (λ a b. AreCountsOf schema (outcome_on schema a b) counts)
  pub leaves : LeavesDisks done.status left done
  pub says : EndsWith old (counts_line counts.types counts.features counts.queries counts.openings) new done.status

-- The files are refused: the first refusal that they meet gives the status and the line.
pub record Uncounted {D : Type 0} (mean : DiskMeaning D) (schema : Schema) (disks left : Pair D) (old : Shown) (done : Done D) (new : Shown) : Type 0 where
  pub fault : OpenFault
  pub refused : OfShown mean disks (λ a b. IsRefusedBy (outcome_on schema a b) fault)
  pub cause : fault ≡ DiskFault → OneRose mean.faults disks left
  pub ends : EndsSaying (unopened_status fault) (unopened_line fault) left old done new

-- What a look at the files comes to: it writes nothing on them, and counts what they come to, or they are refused.
pub record Looks {D : Type 0} (mean : DiskMeaning D) (schema : Schema) (disks : Pair D) (old : Shown) (done : Done D) (new : Shown) : Type 0 where
  pub left : Pair D
  pub only : OnlyLooks mean disks left
  pub tells : Counted mean schema disks left old done new ⊎ Uncounted mean schema disks left old done new

-- What a check comes to.
pub data Checks {D : Type 0} (mean : DiskMeaning D) (disks : Pair D) (old : Ends) (done : Done D) (new : Ends) : Type 0 where
  check_ends_early : EndsEarly disks old done new → Checks mean disks old done new
  looks : (schema : Schema) → HasLoaded schema old new → Looks mean schema disks old.out done new.out → Checks mean disks old done new

-- ---- compact

-- how long the side of a store is
abbrev pub side_of : {D : Type 0} → Held D → ℕ
side_of store = length_after store.schema store.side store.opening store.entries

-- The journal was made just the checkpoint, on the other side, with the next generation: its lengths before and after stand in the line.
pub record Shortened {D : Type 0} (mean : DiskMeaning D) (first : Held D) (old : Shown) (done : Done D) (new : Shown) : Type 0 where
  pub store : Held D
  pub compacted : IsCompactionOf mean.moment mean.since mean.images mean.faults first (Ok tt) store
  pub leaves : LeavesStore done.status store done
  pub says : EndsWith old (sides_line (side_of first) (side_of store)) new done.status

-- The journal was not made shorter: the fault gives the status and the line.
pub record Unshortened {D : Type 0} (mean : DiskMeaning D) (first : Held D) (old : Shown) (done : Done D) (new : Shown) : Type 0 where
  pub fault : StepFault
  pub store : Held D
  pub compacted : IsCompactionOf mean.moment mean.since mean.images mean.faults first (Err fault) store
  pub leaves : LeavesStore (stopped_status fault) store done
  pub says : GivesOr old (stopped_line fault) new

-- What making a journal shorter comes to: the store is started, and then its journal is made just the checkpoint.
pub data Shortens {D : Type 0} (mean : DiskMeaning D) (schema : Schema) (disks : Pair D) (old : Shown) (done : Done D) (new : Shown) : Type 0 where
  unopened : EndsUnopened mean schema disks old done new → Shortens mean schema disks old done new
  shortened : (first : Held D) → IsStarted mean schema disks first → Shortened mean first old done new → Shortens mean schema disks old done new
  unshortened : (first : Held D) → IsStarted mean schema disks first → Unshortened mean first old done new → Shortens mean schema disks old done new

pub data Compacts {D : Type 0} (mean : DiskMeaning D) (disks : Pair D) (old : Ends) (done : Done D) (new : Ends) : Type 0 where
  compact_ends_early : EndsEarly disks old done new → Compacts mean disks old done new
  shortens : (schema : Schema) → HasLoaded schema old new → Shortens mean schema disks old.out done new.out → Compacts mean disks old done new
