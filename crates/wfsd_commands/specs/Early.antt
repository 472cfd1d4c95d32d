-- Ends before a store is started.
use Rattle.std.specs.Prelude.{◌≡◌, ℕ, List, Result, Ok, Err, IfSome}
use Rattle.disk_core.specs.declared.pair.Pair.{Pair}
use Rattle.feature_schema.specs.declared.fault.SchemaFault.{SchemaFault}
use Rattle.feature_values.specs.declared.schema.Schema.{Schema}
use Rattle.http_session.specs.Reading.{IsCalm}
use Rattle.program_output.specs.Lines.{GivesOr, bad_words, refused_line, cannot_read, no_memory}
use Rattle.wfs_ends.specs.Ends.{Shown, Rose}
use Rattle.wfsd_commands.specs.declared.done.Done.{Done}
use Rattle.wfsd_commands.specs.declared.load.Unloaded.{Unloaded}
use Rattle.wfsd_commands.specs.declared.load.Unloaded.TheVariants as unloaded
use Rattle.wfsd_commands.specs.Left.{LeavesDisks}
use Rattle.wfsd_commands.specs.Loading.{loaded}

-- A line was given, or a front of it, and the disks come back as they were.
pub record EndsSaying {D : Type 0} (status : ℕ) (line : List ℕ) (disks : Pair D) (old : Shown) (done : Done D) (new : Shown) : Type 0 where
  pub leaves : LeavesDisks status disks done
  pub says : GivesOr old line new

abbrev pub SaysNoMemory : {D : Type 0} → Pair D → Shown → Done D → Shown → Type 0
SaysNoMemory disks old done new = EndsSaying 8 no_memory disks old done new

abbrev pub SaysBadWords : {D : Type 0} → Pair D → Shown → Done D → Shown → Type 0
SaysBadWords disks old done new = EndsSaying 2 bad_words disks old done new

-- why there is no schema, by status and line
abbrev pub SaysUnloaded : {D : Type 0} → Unloaded → Pair D → Shown → Done D → Shown → Type 0
SaysUnloaded (unloaded.Refused fault) disks old done new = EndsSaying 3 (refused_line fault) disks old done new
SaysUnloaded unloaded.Failed disks old done new = EndsSaying 4 cannot_read disks old done new
SaysUnloaded unloaded.OutOfMemory disks old done new = SaysNoMemory disks old done new

-- the ends of each command at one time: the schema's source, and the output
pub record Ends : Type 0 where
  pub schema : Shown
  pub out : Shown

-- the bytes of the schema's source mean this, where it tells them
abbrev pub Means : Ends → Result Schema SchemaFault → Type 0
Means old meant = IfSome old.schema.left (λ bytes. loaded bytes ≡ meant)

-- the schema was loaded, and no take of its source failed
pub record HasLoaded (schema : Schema) (old new : Ends) : Type 0 where
  pub means : Means old (Ok schema)
  pub calm : IsCalm old.schema new.schema

-- There is no store, and no disk was asked: the schema is refused (3), or its source fails (4), or memory runs out (8). No take of the
-- schema's source failed where its failure is not the answer.
pub data EndsEarly {D : Type 0} (disks : Pair D) (old : Ends) (done : Done D) (new : Ends) : Type 0 where
  schema_refused : (fault : SchemaFault) → Means old (Err fault) → IsCalm old.schema new.schema → EndsSaying 3 (refused_line fault) disks old.out done new.out → EndsEarly disks old done new
  schema_failed : Rose old.schema.failed_takes new.schema.failed_takes → EndsSaying 4 cannot_read disks old.out done new.out → EndsEarly disks old done new
  forgotten : IsCalm old.schema new.schema → SaysNoMemory disks old.out done new.out → EndsEarly disks old done new
