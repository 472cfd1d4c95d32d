-- What a run of the program leaves.
use Rattle.std.specs.Prelude.{◌≡◌, ℕ, List, []}
use Rattle.disk_core.specs.declared.disk.Disk.{Ghosts as DiskMeaning}
use Rattle.disk_core.specs.declared.pair.Pair.{Pair}
use Rattle.feature_journal.specs.Faults.{NoneFell}
use Rattle.service_doors.specs.Listening.{Listening}
use Rattle.service_session.specs.declared.gate.NoGate.{NoGate}
use Rattle.store_server.specs.declared.slot.Ended.{Ended}
use Rattle.store_server.specs.declared.slot.Slot.{Slot}
use Rattle.shared_store.specs.Openings.{HasLegalHistory}
use Rattle.wfs_store.specs.Held.{Held}
use Rattle.wfsd_commands.specs.declared.done.Done.{Done}
use Rattle.wfsd_commands.specs.Becoming.{RestsSince, Stands}
use Rattle.wfsd_commands.specs.Left.{LeavesStore}
use Rattle.wfsd_program.specs.declared.run.Run.{Run}

-- what a run leaves beside its workers
abbrev pub done_of : {D A C : Type 0} → Run D A C → Done D
done_of run = record { status = run.status; store = run.store; disks = run.disks }

-- no worker was made ready
pub record LeavesNobody {D A C : Type 0} (run : Run D A C) : Type 0 where
  pub workers : run.workers.items ≡ []
  pub idle : run.idle.items ≡ []

-- no worker was made ready, and the doors are as they were
pub record AsksNoDoors {D A C : Type 0} (old : Listening) (run : Run D A C) (new : Listening) : Type 0 where
  pub nobody : LeavesNobody run
  pub doors : new ≡ old

-- The store is left, with these workers that have ended, and with what was made ready for these that never began.
pub record LeavesService {D A C : Type 0} (status : ℕ) (store : Held D) (ended : List (Ended A C NoGate)) (idle : List (Slot A C NoGate)) (run : Run D A C) : Type 0 where
  pub leaves : LeavesStore status store (done_of run)
  pub workers : run.workers.items ≡ ended
  pub idle_are : run.idle.items ≡ idle

-- All that holds of the store that a run leaves, whatever it was asked, where it was given these disks: its history is legal, and its requests are such as the schema
-- allows; a crash leaves what the history leaves, or that with the change that is begun; and nothing is begun, unless a disk failed.
pub record IsLeftStanding {D : Type 0} (mean : DiskMeaning D) (disks : Pair D) (store : Held D) : Type 0 where
  pub legal : HasLegalHistory store
  pub stands : Stands mean store
  pub rests : RestsSince mean.faults disks store
  pub count : NoneFell mean.faults disks store.disks
