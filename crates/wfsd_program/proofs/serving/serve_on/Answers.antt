use Rattle.std.proofs.Common.{refl}
use Rattle.wfsd_commands.proofs.Early.{none_left}
use Rattle.wfsd_commands.proofs.Leaving.{ends_unopened}
use Rattle.wfsd_program.specs.Serving.{started, unopened}
use Rattle.wfsd_program.proofs.Standing.{as_done, since_before}
use Rattle.wfsd_program.proofs.serving.serve_on.Goals as goal

pub returns-in-Ok-clause-serves : goal.returns-in-Ok-clause-serves
returns-in-Ok-clause-serves g c = started c.in-Ok.store c.in-Ok.ensures.started c.open_doors.ensures.serves

pub returns-in-Ok-clause-left : goal.returns-in-Ok-clause-left
returns-in-Ok-clause-left g c = since_before g.D.Disk c.args.disks c.in-Ok.store.disks _ c.in-Ok.ensures.started.safely.count c.open_doors.ensures.left

pub returns-in-Err-clause-serves : goal.returns-in-Err-clause-serves
returns-in-Err-clause-serves g c =
    unopened (rw c.without_workers.ensures.done (ends_unopened _ _ _ _ c.in-Err.fault c.in-Err.disks _ _ _ c.in-Err.ensures.refused c.leave_disks.ensures c.say_unopened.ensures.status c.say_unopened.ensures.says))
    (record { nobody = c.without_workers.ensures.nobody; doors = refl })

pub returns-in-Err-clause-left : goal.returns-in-Err-clause-left
returns-in-Err-clause-left g c = as_done _ c.without_workers.result _ c.without_workers.ensures.done (none_left _ _ _ _ c.leave_disks.ensures)
