use Rattle.wfs_machine.proofs.Telling.{carried_said}
use Rattle.wfs_machine.proofs.plain.Plain.transact.Goals as goal

pub returns-in-Err : goal.returns-in-Err
returns-in-Err c =
    c.fail.ensures _ (carried_said c.in-Err.fault c.args.self.now.schema c.args.self.now.state c.args.moment c.args.request.now c.in-Err.ensures)
