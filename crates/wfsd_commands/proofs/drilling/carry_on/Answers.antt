use Rattle.wfsd_commands.proofs.Drills.{stopped_here}
use Rattle.wfsd_commands.proofs.drilling.carry_on.Goals as goal

pub returns-in-None-clause-on : goal.returns-in-None-clause-on
returns-in-None-clause-on g c first requests behind come = stopped_here g.D.Disk.faults first requests _ c.args.sums.now c.args.store.now come
