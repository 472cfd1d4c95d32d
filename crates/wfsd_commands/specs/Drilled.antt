-- What the command `drill` comes to.
use Rattle.std.specs.Prelude.{◌≡◌, ℕ, List, ◌++◌, length, Option, Some, None}
use Rattle.disk_core.specs.declared.disk.Disk.{Ghosts as DiskMeaning}
use Rattle.disk_core.specs.declared.pair.Pair.{Pair}
use Rattle.drill_requests.specs.Carried.{Course}
use Rattle.drill_requests.specs.Requests.{drill_of}
use Rattle.feature_values.specs.declared.schema.Schema.{Schema}
use Rattle.program_output.specs.Lines.{GivesOr, bad_words, no_memory, rounds_line}
use Rattle.wfs_ends.specs.Ends.{Shown}
use Rattle.wfs_model.specs.declared.request.Request.{Request}
use Rattle.wfs_store.specs.declared.fault.StepFault.{StepFault}
use Rattle.wfs_store.specs.Held.{Held, kept_of}
use Rattle.wfs_words.specs.declared.command.Command.{Command}
use Rattle.wfs_words.specs.declared.command.Command.TheVariants as command
use Rattle.wfs_words.specs.Words.{asked_of}
use Rattle.wfsd_commands.specs.declared.done.Done.{Done}
use Rattle.wfsd_commands.specs.Asking.{AskFor, IsDrill}
use Rattle.wfsd_commands.specs.Drilling.{HasDone, StopsFor}
use Rattle.wfsd_commands.specs.Early.{Ends, EndsEarly, EndsSaying, HasLoaded}
use Rattle.wfsd_commands.specs.Left.{LeavesStore}
use Rattle.wfsd_commands.specs.Starting.{IsStarted, EndsUnopened}
use Rattle.wfsd_commands.specs.Statuses.{EndsWith, stopped_line, stopped_status}

-- All requests were carried out: the sums of their replies stand in the line.
pub record SumsUp {D : Type 0} (mean : DiskMeaning D) (rounds : ℕ) (first : Held D) (old : Shown) (done : Done D) (new : Shown) : Type 0 where
  pub course : Course
  pub store : Held D
  pub all : HasDone mean.faults first (drill_of first.schema rounds) course store
  pub leaves : LeavesStore done.status store done
  pub says : EndsWith old (rounds_line rounds (length course.entries) (length (kept_of store).features) course.matched course.locked) new done.status

-- Some first of the requests were carried out, and not the next: its fault gives the status and the line.
pub record Stops {D : Type 0} (mean : DiskMeaning D) (rounds : ℕ) (first : Held D) (old : Shown) (done : Done D) (new : Shown) : Type 0 where
  pub fault : StepFault
  pub before : List Request
  pub behind : List Request
  pub parts : drill_of first.schema rounds ≡ before ++ behind
  pub course : Course
  pub store : Held D
  pub some : HasDone mean.faults first before course store
  pub cause : StopsFor mean.faults first course behind store fault
  pub leaves : LeavesStore (stopped_status fault) store done
  pub says : GivesOr old (stopped_line fault) new

-- What a drill of so many rounds comes to with a schema: the store is started, and then the requests of the drill are carried out, one after the other.
pub data DrillsWith {D : Type 0} (mean : DiskMeaning D) (schema : Schema) (rounds : ℕ) (disks : Pair D) (old : Shown) (done : Done D) (new : Shown) : Type 0 where
  unopened : EndsUnopened mean schema disks old done new → DrillsWith mean schema rounds disks old done new
  summed : (first : Held D) → IsStarted mean schema disks first → SumsUp mean rounds first old done new → DrillsWith mean schema rounds disks old done new
  stopped : (first : Held D) → IsStarted mean schema disks first → Stops mean rounds first old done new → DrillsWith mean schema rounds disks old done new

pub data Drills {D : Type 0} (mean : DiskMeaning D) (rounds : ℕ) (disks : Pair D) (old : Ends) (done : Done D) (new : Ends) : Type 0 where
  early : EndsEarly disks old done new → Drills mean rounds disks old done new
  drilled : (schema : Schema) → HasLoaded schema old new → DrillsWith mean schema rounds disks old.out done new.out → Drills mean rounds disks old done new

-- one line was given, or a front of it, and the schema's source is as it was
pub record OnlyTells {D : Type 0} (status : ℕ) (line : List ℕ) (disks : Pair D) (old : Ends) (done : Done D) (new : Ends) : Type 0 where
  pub schema : new.schema ≡ old.schema
  pub ends : EndsSaying status line disks old.out done new.out

-- a drill of so many rounds, or, where the command is another, the line that the words are bad
abbrev pub DrillsIf : {D : Type 0} (mean : DiskMeaning D) → Option ℕ → Pair D → Ends → Done D → Ends → Type 0
DrillsIf mean (Some rounds) disks old done new = Drills mean rounds disks old done new
DrillsIf mean None disks old done new = OnlyTells 2 bad_words disks old done new

-- What a drill comes to by its words: they are refused, or are not those of a drill, or memory runs out while they are read.
pub data DrillsBy {D : Type 0} (mean : DiskMeaning D) (words : List (List ℕ)) (disks : Pair D) (old : Ends) (done : Done D) (new : Ends) : Type 0 where
  refused : asked_of words ≡ None → OnlyTells 2 bad_words disks old done new → DrillsBy mean words disks old done new
  no_drill : (c : Command) → AskFor words c → (IsDrill c → ⊥) → OnlyTells 2 bad_words disks old done new → DrillsBy mean words disks old done new
  forgotten : OnlyTells 8 no_memory disks old done new → DrillsBy mean words disks old done new
  drills : (rounds : ℕ) → AskFor words (command.Drill rounds) → Drills mean rounds disks old done new → DrillsBy mean words disks old done new

-- what is told behind all requests of a drill: the sums, or that one of them has no 64 bits
abbrev pub IsTold : {D : Type 0} → ℕ → Held D → (matched locked : Option ℕ) → Shown → Done D → Shown → Type 0
IsTold rounds store (Some matched) (Some locked) old done new =
    LeavesStore done.status store done × EndsWith old (rounds_line rounds (length store.entries) (length (kept_of store).features) matched locked) new done.status
IsTold rounds store None locked old done new = LeavesStore 8 store done × GivesOr old no_memory new
IsTold rounds store (Some matched) None old done new = LeavesStore 8 store done × GivesOr old no_memory new
