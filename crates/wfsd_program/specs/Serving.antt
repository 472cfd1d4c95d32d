-- What the command `serve` comes to.
use Rattle.std.specs.Prelude.{◌≡◌, ◌⊎◌, ℕ, ◌≤◌, List, [], length, All, map, Option, vec_capacity}
use Rattle.disk_core.specs.declared.disk.Disk.{Ghosts as DiskMeaning}
use Rattle.disk_core.specs.declared.pair.Pair.{Pair}
use Rattle.feature_values.specs.declared.schema.Schema.{Schema}
use Rattle.program_output.specs.Lines.{GivesOr, no_memory, serving}
use Rattle.service_doors.specs.declared.doors.DoorFault.{DoorFault}
use Rattle.service_doors.specs.Accepting.{Accepting}
use Rattle.service_doors.specs.Listening.{Listening, Opens, Refuses, asking}
use Rattle.service_session.specs.declared.gate.NoGate.{NoGate}
use Rattle.store_server.specs.declared.slot.Ended.{Ended}
use Rattle.store_server.specs.declared.slot.Slot.{Slot}
use Rattle.store_server.specs.Serving.{RunFits}
use Rattle.wfs_ends.specs.Ends.{Shown, GivesAll, GivesFront}
use Rattle.wfs_store.specs.Held.{Held}
use Rattle.wfsd_commands.specs.Early.{Ends, EndsEarly, HasLoaded, SaysNoMemory}
use Rattle.wfsd_commands.specs.Starting.{IsStarted, EndsUnopened}
use Rattle.wfsd_program.specs.declared.words.ServeWords.{ServeWords}
use Rattle.wfsd_program.specs.declared.places.Places.{Places}
use Rattle.wfsd_program.specs.declared.run.Run.{Run}
use Rattle.wfsd_program.specs.Left.{AsksNoDoors, LeavesService, done_of}
use Rattle.wfsd_program.specs.Statuses.{EndsBy, unheard_line, unheard_status}

-- a service has 1 to 16 workers
pub record HasWorkers (wanted : ServeWords) : Type 0 where
  pub some : 1 ≤ wanted.workers
  pub most : wanted.workers ≤ 16

-- the ends of a service at one time, once there is a schema: the output, and the doors
pub record Front : Type 0 where
  pub out : Shown
  pub doors : Listening

-- the same, with the schema's source
pub record ServeEnds : Type 0 where
  pub own : Ends
  pub doors : Listening

abbrev pub front_of : ServeEnds → Front
front_of ends = record { out = ends.own.out; doors = ends.doors }

-- The doors were asked once, for what the words say, and gave an acceptor for each worker. Each worker is to be wanted one of them, in order, and a clock with the
-- moments that the program's has still to tell.
pub record AreReady {A C : Type 0} (accepting : A → Accepting) (moments : C → Option (List ℕ)) (wanted : ServeWords) (clock : Option (List ℕ)) (old : Listening) (slots : List (Slot A C NoGate)) (new : Listening) : Type 0 where
  pub opens : Opens old (asking wanted.listen wanted.workers) (map (λ s. accepting s.acceptor) slots) new
  pub twins : All (λ s. moments s.clock ≡ clock) slots

-- What can be made for so many workers before the doors are asked: a clock for each, and room for the list of what they are wanted.
pub record AreFor {A C : Type 0} (moments : C → Option (List ℕ)) (workers : ℕ) (clock : Option (List ℕ)) (places : Places A C) : Type 0 where
  pub number : length places.clocks.items ≡ workers
  pub twins : All (λ c. moments c ≡ clock) places.clocks.items
  pub none : places.slots.items ≡ []
  pub room : workers ≤ vec_capacity places.slots

-- ---- once the store is started

-- The doors gave no acceptor: why gives the status and the line. The store is left as it was started.
pub record Unheard {D A C : Type 0} (first : Held D) (old : Front) (run : Run D A C) (new : Front) : Type 0 where
  pub fault : DoorFault
  pub refuses : Refuses fault old.doors new.doors
  pub leaves : LeavesService (unheard_status fault) first [] [] run
  pub says : GivesOr old.out (unheard_line fault) new.out

-- ---- once the doors are open

-- There was no memory for the workers: none began.
pub record Unserved {D A C : Type 0} (first : Held D) (slots : List (Slot A C NoGate)) (old : Shown) (run : Run D A C) (new : Shown) : Type 0 where
  pub says : GivesOr old no_memory new
  pub leaves : LeavesService 8 first [] slots run

-- All workers together came to one history of the store, and ended.
pub record HasServed {D A C : Type 0} (faults : D → ℕ) (accepting : A → Accepting) (moments : C → Option (List ℕ)) (limit : Option ℕ) (first : Held D) (slots : List (Slot A C NoGate)) (old : Shown) (run : Run D A C) (new : Shown) : Type 0 where
  pub store : Held D
  pub ended : List (Ended A C NoGate)
  pub fits : RunFits accepting moments limit faults first slots store ended
  pub leaves : LeavesService run.status store ended [] run
  pub ends : EndsBy ended old run.status new

-- The output failed when it was to be told that links are served: no worker began, and the acceptors are left as the doors gave them.
pub record Untold {D A C : Type 0} (first : Held D) (slots : List (Slot A C NoGate)) (old : Shown) (run : Run D A C) (new : Shown) : Type 0 where
  pub says : GivesFront old serving new
  pub leaves : LeavesService 7 first [] slots run

module _ {D A C : Type 0} (mean : DiskMeaning D) (accepting : A → Accepting) (moments : C → Option (List ℕ)) where
  -- What becomes of workers that are ready, once that is told.
  abbrev pub ServesTold : Option ℕ → Held D → List (Slot A C NoGate) → Shown → Run D A C → Shown → Type 0
  ServesTold limit first slots old run new = Unserved first slots old run new ⊎ HasServed mean.faults accepting moments limit first slots old run new

  -- What becomes of workers that are ready.
  pub data ServesLinks (limit : Option ℕ) (first : Held D) (slots : List (Slot A C NoGate)) (old : Shown) (run : Run D A C) (new : Shown) : Type 0 where
    untold : Untold first slots old run new → ServesLinks limit first slots old run new
    told : (mid : Shown) → GivesAll old serving mid → ServesTold limit first slots mid run new → ServesLinks limit first slots old run new

  -- What a service comes to with a store that was started.
  pub data ServesFrom (wanted : ServeWords) (clock : Option (List ℕ)) (first : Held D) (old : Front) (run : Run D A C) (new : Front) : Type 0 where
    unheard : Unheard first old run new → ServesFrom wanted clock first old run new
    opened : (slots : List (Slot A C NoGate)) → AreReady accepting moments wanted clock old.doors slots new.doors → ServesLinks wanted.connections first slots old.out run new.out
        → ServesFrom wanted clock first old run new

  -- ---- the whole of it

  -- What it comes to once there is memory for it: the store is started on the disks; what refuses that gives the status and one line, and the doors are not asked.
  pub data ServesOn (wanted : ServeWords) (clock : Option (List ℕ)) (schema : Schema) (disks : Pair D) (old : Front) (run : Run D A C) (new : Front) : Type 0 where
    unopened : EndsUnopened mean schema disks old.out (done_of run) new.out → AsksNoDoors old.doors run new.doors → ServesOn wanted clock schema disks old run new
    started : (first : Held D) → IsStarted mean schema disks first → ServesFrom wanted clock first old run new → ServesOn wanted clock schema disks old run new

  -- What it comes to once there is a schema: where there is no memory for the workers' clocks and lists, no disk is asked.
  pub data MayServe (wanted : ServeWords) (clock : Option (List ℕ)) (schema : Schema) (disks : Pair D) (old : Front) (run : Run D A C) (new : Front) : Type 0 where
    no_memory_for_it : SaysNoMemory disks old.out (done_of run) new.out → AsksNoDoors old.doors run new.doors → MayServe wanted clock schema disks old run new
    serves_on : ServesOn wanted clock schema disks old run new → MayServe wanted clock schema disks old run new

  -- What it comes to. First the schema is read; where there is none, the status and one line say why.
  pub data Serves (wanted : ServeWords) (clock : Option (List ℕ)) (disks : Pair D) (old : ServeEnds) (run : Run D A C) (new : ServeEnds) : Type 0 where
    early : EndsEarly disks old.own (done_of run) new.own → AsksNoDoors old.doors run new.doors → Serves wanted clock disks old run new
    serves : (schema : Schema) → HasLoaded schema old.own new.own → MayServe wanted clock schema disks (front_of old) run (front_of new) → Serves wanted clock disks old run new
