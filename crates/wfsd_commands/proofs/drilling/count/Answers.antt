use Rattle.wfsd_commands.proofs.Drills.{counted_come, stopped_here}
use Rattle.wfsd_commands.proofs.drilling.count.Goals as goal

pub returns-in-Ok-clause-on : goal.returns-in-Ok-clause-on
returns-in-Ok-clause-on g c first requests come =
    counted_come g.D.Disk.faults first requests c.args.sums.now c.args.store.now come c.args.request.now c.in-Ok.reply c.args.next c.sum_of-sums.result c.requires.read c.in-Ok.ensures c.requires.next
    (λ n h. rw c.matched_in.ensures at (c.sum_of-sums.ensures n h))

pub returns-in-Err-clause-on : goal.returns-in-Err-clause-on
returns-in-Err-clause-on g c first requests behind come = stopped_here g.D.Disk.faults first requests _ c.args.sums.now c.args.store.now come
