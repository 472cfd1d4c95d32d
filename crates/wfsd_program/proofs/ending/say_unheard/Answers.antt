use Rattle.wfsd_program.proofs.ending.say_unheard.Goals as goal

pub returns-in-Failed-clause-says : goal.returns-in-Failed-clause-says
returns-in-Failed-clause-says g c = rw c.in-Failed.is c.say.ensures

pub returns-in-OutOfMemory-clause-says : goal.returns-in-OutOfMemory-clause-says
returns-in-OutOfMemory-clause-says g c = rw c.in-OutOfMemory.is c.say-in-OutOfMemory.ensures
