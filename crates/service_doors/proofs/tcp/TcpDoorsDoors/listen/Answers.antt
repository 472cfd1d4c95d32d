use Rattle.service_doors.specs.Accepting.{untold}
use Rattle.service_doors.proofs.Openings.{opened_untold}
use Rattle.service_doors.proofs.tcp.TcpDoorsDoors.listen.Goals as goal

pub returns-in-Ok-clause-opens : goal.returns-in-Ok-clause-opens
returns-in-Ok-clause-opens g c =
    opened_untold c.open.new.acceptors.items (λ a. untold a.out a.finished a.faults) (record { address = c.args.address.now; workers = c.args.workers })
    c.args.self.now.faults c.in-Ok.ensures.number c.in-Ok.ensures.fresh
