use Rattle.wfsd_commands.specs.Commands.{unopened}
use Rattle.wfsd_commands.proofs.Becomes.{left_since}
use Rattle.wfsd_commands.proofs.Early.{none_left}
use Rattle.wfsd_commands.proofs.Leaving.{ends_unopened, shortens_by}
use Rattle.wfsd_commands.proofs.commands.compact_with.Goals as goal

pub returns-in-Ok-clause-shortens : goal.returns-in-Ok-clause-shortens
returns-in-Ok-clause-shortens g c = shortens_by _ _ _ c.in-Ok.store _ _ _ c.in-Ok.ensures.started c.shorten.ensures.shortened

pub returns-in-Ok-clause-left : goal.returns-in-Ok-clause-left
returns-in-Ok-clause-left g c = left_since g.D.Disk c.args.disks c.in-Ok.store.disks _ c.in-Ok.ensures.started.safely.count c.shorten.ensures.left

pub returns-in-Err-clause-shortens : goal.returns-in-Err-clause-shortens
returns-in-Err-clause-shortens g c = unopened (ends_unopened _ _ _ _ c.in-Err.fault c.in-Err.disks _ _ _ c.in-Err.ensures.refused c.leave_disks.ensures c.say_unopened.ensures.status c.say_unopened.ensures.says)

pub returns-in-Err-clause-left : goal.returns-in-Err-clause-left
returns-in-Err-clause-left g c = none_left _ _ _ _ c.leave_disks.ensures
