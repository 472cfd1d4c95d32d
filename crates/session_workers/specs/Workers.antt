-- What a worker in a slot of its own does.
use Rattle.std.specs.Prelude.{◌≡◌, ℕ, List, Option, Some}
use Rattle.service_doors.specs.Accepting.{Accepting}
use Rattle.service_session.specs.declared.service.Service.{Ghosts as Meaning}
use Rattle.session_workers.specs.declared.ending.WorkerEnd.{WorkerEnd}
use Rattle.session_workers.specs.declared.worker.Worker.{Worker}
use Rattle.session_workers.specs.Working.{IsWorked, stand}

-- a worker did its work, and keeps how it ended
pub record HasWorked {S A C G : Type 0} (mean : Meaning S) (accepting : A → Accepting) (moments : C → Option (List ℕ)) (limit : Option ℕ) (old new : Worker S A C G) : Type 0 where
  pub end : WorkerEnd
  pub kept : new.end ≡ Some end
  pub worked : IsWorked mean limit (stand old.service (moments old.clock)) (accepting old.acceptor) end (stand new.service (moments new.clock)) (accepting new.acceptor)
