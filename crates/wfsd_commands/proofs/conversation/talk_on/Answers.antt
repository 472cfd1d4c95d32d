use Rattle.std.proofs.Common.{refl}
use Rattle.wfsd_commands.specs.Talk.{unopened, held}
use Rattle.wfsd_commands.proofs.Becomes.{left_since}
use Rattle.wfsd_commands.proofs.Early.{none_left}
use Rattle.wfsd_commands.proofs.Leaving.{ends_unopened}
use Rattle.wfsd_commands.proofs.conversation.talk_on.Goals as goal

pub returns-in-Ok-clause-talks : goal.returns-in-Ok-clause-talks
returns-in-Ok-clause-talks g c = held c.in-Ok.store c.in-Ok.ensures.started c.hold.ensures.held

pub returns-in-Ok-clause-left : goal.returns-in-Ok-clause-left
returns-in-Ok-clause-left g c = left_since g.D.Disk c.args.disks c.in-Ok.store.disks _ c.in-Ok.ensures.started.safely.count c.hold.ensures.left

pub returns-in-Err-clause-talks : goal.returns-in-Err-clause-talks
returns-in-Err-clause-talks g c =
    unopened (ends_unopened _ _ _ _ c.in-Err.fault c.in-Err.disks _ _ _ c.in-Err.ensures.refused c.leave_disks.ensures c.say_unopened.ensures.status c.say_unopened.ensures.says) (record { input = refl; clock = refl })

pub returns-in-Err-clause-left : goal.returns-in-Err-clause-left
returns-in-Err-clause-left g c = none_left _ _ _ _ c.leave_disks.ensures
