-- What the program comes to, by its words.
use Rattle.std.specs.Prelude.{◌≡◌, ℕ, List, Option, None, IfSome}
use Rattle.disk_core.specs.declared.disk.Disk.{Ghosts as DiskMeaning}
use Rattle.disk_core.specs.declared.pair.Pair.{Pair}
use Rattle.program_output.specs.Lines.{bad_words, no_memory}
use Rattle.service_doors.specs.Accepting.{Accepting}
use Rattle.service_doors.specs.Listening.{Listening}
use Rattle.wfs_words.specs.declared.command.Command.TheVariants as command
use Rattle.wfs_words.specs.Words.{asked_of}
use Rattle.wfsd_commands.specs.Asking.{AskFor}
use Rattle.wfsd_commands.specs.Becoming.{IsLeft}
use Rattle.wfsd_commands.specs.Commands.{Checks, Compacts}
use Rattle.wfsd_commands.specs.Drilled.{Drills}
use Rattle.wfsd_commands.specs.Early.{EndsSaying}
use Rattle.wfsd_commands.specs.Talk.{TalkEnds, own_of, Talks, SaysNothingHeard}
use Rattle.wfsd_program.specs.declared.words.ServeWords.{ServeWords}
use Rattle.wfsd_program.specs.declared.run.Run.{Run}
use Rattle.wfsd_program.specs.Left.{AsksNoDoors, done_of}
use Rattle.wfsd_program.specs.Serving.{ServeEnds, Serves}

-- the ends of the program at one time: those of a conversation, and the doors
pub record ProgramEnds : Type 0 where
  pub talk : TalkEnds
  pub doors : Listening

-- those that a service has
abbrev pub serve_ends : ProgramEnds → ServeEnds
serve_ends ends = record { own = own_of ends.talk; doors = ends.doors }

-- One line was wanted, or a front of it, and the disks come back as they were; the schema's source, the input, the clock and the doors are as they were.
pub record OnlySays {D A C : Type 0} (status : ℕ) (line : List ℕ) (disks : Pair D) (old : ProgramEnds) (run : Run D A C) (new : ProgramEnds) : Type 0 where
  pub schema : new.talk.schema ≡ old.talk.schema
  pub heard : SaysNothingHeard old.talk.heard new.talk.heard
  pub doors : AsksNoDoors old.doors run new.doors
  pub ends : EndsSaying status line disks old.talk.heard.out (done_of run) new.talk.heard.out

-- A command that waits for nobody: it has no worker and asks no doors, and all that holds of a store with the one seat holds of the store that it leaves.
pub record WaitsForNobody {D A C : Type 0} (mean : DiskMeaning D) (disks : Pair D) (old : ProgramEnds) (run : Run D A C) (new : ProgramEnds) : Type 0 where
  pub doors : AsksNoDoors old.doors run new.doors
  pub left : IfSome run.store (IsLeft mean disks)

-- What the program comes to: the words are refused, or memory runs out while they are read; or they ask for a command, and it comes to what the command does.
pub data Runs {D A C : Type 0} (mean : DiskMeaning D) (accepting : A → Accepting) (moments : C → Option (List ℕ)) (words : List (List ℕ)) (disks : Pair D) (old : ProgramEnds) (run : Run D A C) (new : ProgramEnds) : Type 0 where
  refused : asked_of words ≡ None → OnlySays 2 bad_words disks old run new → Runs mean accepting moments words disks old run new
  forgotten : OnlySays 8 no_memory disks old run new → Runs mean accepting moments words disks old run new
  talks : AskFor words command.Talk → Talks mean disks old.talk (done_of run) new.talk → WaitsForNobody mean disks old run new → Runs mean accepting moments words disks old run new
  checks : AskFor words command.Check → Checks mean disks (own_of old.talk) (done_of run) (own_of new.talk) → SaysNothingHeard old.talk.heard new.talk.heard → WaitsForNobody mean disks old run new
      → Runs mean accepting moments words disks old run new
  compacts : AskFor words command.Compact → Compacts mean disks (own_of old.talk) (done_of run) (own_of new.talk) → SaysNothingHeard old.talk.heard new.talk.heard → WaitsForNobody mean disks old run new
      → Runs mean accepting moments words disks old run new
  drills : (rounds : ℕ) → AskFor words (command.Drill rounds) → Drills mean rounds disks (own_of old.talk) (done_of run) (own_of new.talk) → SaysNothingHeard old.talk.heard new.talk.heard
      → WaitsForNobody mean disks old run new → Runs mean accepting moments words disks old run new
  serves : (wanted : ServeWords) → AskFor words (command.Serve wanted.listen wanted.workers wanted.connections)
      → Serves mean accepting moments wanted old.talk.heard.clock disks (serve_ends old) run (serve_ends new) → SaysNothingHeard old.talk.heard new.talk.heard
      → Runs mean accepting moments words disks old run new
