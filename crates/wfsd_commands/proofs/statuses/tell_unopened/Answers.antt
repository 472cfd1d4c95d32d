use Rattle.wfsd_commands.proofs.statuses.tell_unopened.Goals as goal

pub returns-in-DiskFault : goal.returns-in-DiskFault
returns-in-DiskFault g c = rw c.in-DiskFault.is c.say.ensures

pub returns-in-Full : goal.returns-in-Full
returns-in-Full g c = rw c.in-Full.is c.say-in-Full.ensures

pub returns-in-OutOfMemory : goal.returns-in-OutOfMemory
returns-in-OutOfMemory g c = rw c.in-OutOfMemory.is c.say-in-OutOfMemory.ensures
