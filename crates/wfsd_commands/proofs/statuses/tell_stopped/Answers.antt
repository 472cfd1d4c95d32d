use Rattle.wfsd_commands.proofs.statuses.tell_stopped.Goals as goal

pub returns-in-StoreFault : goal.returns-in-StoreFault
returns-in-StoreFault g c = rw c.in-StoreFault.is c.say.ensures

pub returns-in-Full : goal.returns-in-Full
returns-in-Full g c = rw c.in-Full.is c.say-in-Full.ensures

pub returns-in-OutOfMemory : goal.returns-in-OutOfMemory
returns-in-OutOfMemory g c = rw c.in-OutOfMemory.is c.say-in-OutOfMemory.ensures
