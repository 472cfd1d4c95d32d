-- The lines and the statuses by which a service ends.
use Rattle.std.specs.Prelude.{◌≡◌, ◌⊎◌, ℕ, List, All, Any}
use Rattle.program_output.specs.Lines.{GivesOr, cannot_listen, no_memory}
use Rattle.service_doors.specs.declared.doors.DoorFault.{DoorFault}
use Rattle.service_doors.specs.declared.doors.DoorFault.TheVariants as fault
use Rattle.session_workers.specs.declared.ending.WorkerEnd.{WorkerEnd}
use Rattle.session_workers.specs.declared.ending.WorkerEnd.TheVariants as end
use Rattle.store_server.specs.declared.slot.Ended.{Ended}
use Rattle.wfs_ends.specs.Ends.{Shown}

-- ---- doors that are not opened

abbrev pub unheard_line : DoorFault → List ℕ
unheard_line fault.Failed = cannot_listen
unheard_line fault.OutOfMemory = no_memory

abbrev pub unheard_status : DoorFault → ℕ
unheard_status fault.Failed = 9
unheard_status fault.OutOfMemory = 8

-- ---- workers that have ended

-- a worker had as many links as it may have, or no link was left
abbrev pub IsWell : WorkerEnd → Type 0
IsWell e = (e ≡ end.LimitReached) ⊎ (e ≡ end.NoMore)

-- its acceptor failed
abbrev pub IsFailure : WorkerEnd → Type 0
IsFailure e = e ≡ end.AcceptFault

abbrev pub HasEndedWell : {A C G : Type 0} → Ended A C G → Type 0
HasEndedWell ended = IsWell ended.end

abbrev pub HasFailed : {A C G : Type 0} → Ended A C G → Type 0
HasFailed ended = IsFailure ended.end

-- all workers have ended well, and nothing more is said
pub record EndsWell {A C G : Type 0} (ended : List (Ended A C G)) (old : Shown) (status : ℕ) (new : Shown) : Type 0 where
  pub all : All HasEndedWell ended
  pub status_is : status ≡ 0
  pub silent : new ≡ old

-- the acceptor of some worker failed, and one line says so
pub record EndsFailed {A C G : Type 0} (ended : List (Ended A C G)) (old : Shown) (status : ℕ) (new : Shown) : Type 0 where
  pub some : Any HasFailed ended
  pub status_is : status ≡ 9
  pub says : GivesOr old cannot_listen new

-- what is said once all workers have ended, and the status
abbrev pub EndsBy : {A C G : Type 0} → List (Ended A C G) → Shown → ℕ → Shown → Type 0
EndsBy ended old status new = EndsWell ended old status new ⊎ EndsFailed ended old status new
