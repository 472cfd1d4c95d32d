use Rattle.wfsd_commands.proofs.starting.end_unloaded.Goals as goal

pub returns-in-Failed : goal.returns-in-Failed
returns-in-Failed g c = rw c.in-Failed.is (record { leaves = c.leave_disks-in-Failed.ensures; says = c.say.ensures })
