use Rattle.wfsd_commands.specs.Drilled.{unopened}
use Rattle.wfsd_commands.proofs.Becomes.{left_since}
use Rattle.wfsd_commands.proofs.Drills.{drills_by}
use Rattle.wfsd_commands.proofs.Early.{none_left}
use Rattle.wfsd_commands.proofs.Leaving.{ends_unopened}
use Rattle.wfsd_commands.proofs.drill_command.drill_on.Goals as goal

pub returns-in-Ok-clause-drills : goal.returns-in-Ok-clause-drills
returns-in-Ok-clause-drills g c = drills_by _ _ _ _ c.in-Ok.store _ _ _ c.in-Ok.ensures.started c.drill_with.ensures.drilled

pub returns-in-Ok-clause-left : goal.returns-in-Ok-clause-left
returns-in-Ok-clause-left g c = left_since g.D.Disk c.args.disks c.in-Ok.store.disks _ c.in-Ok.ensures.started.safely.count c.drill_with.ensures.left

pub returns-in-Err-clause-drills : goal.returns-in-Err-clause-drills
returns-in-Err-clause-drills g c = unopened (ends_unopened _ _ _ _ c.in-Err.fault c.in-Err.disks _ _ _ c.in-Err.ensures.refused c.leave_disks.ensures c.say_unopened.ensures.status c.say_unopened.ensures.says)

pub returns-in-Err-clause-left : goal.returns-in-Err-clause-left
returns-in-Err-clause-left g c = none_left _ _ _ _ c.leave_disks.ensures
