use Rattle.std.proofs.Common.{refl}
use Rattle.wfsd_commands.proofs.Early.{none_left}
use Rattle.wfsd_program.specs.Serving.{no_memory_for_it, serves_on}
use Rattle.wfsd_program.proofs.Standing.{as_done}
use Rattle.wfsd_program.proofs.serving.serve_with.Goals as goal

pub returns-in-Ok-clause-serves : goal.returns-in-Ok-clause-serves
returns-in-Ok-clause-serves g c = serves_on c.serve_on.ensures.serves

pub returns-in-Err-clause-serves : goal.returns-in-Err-clause-serves
returns-in-Err-clause-serves g c = no_memory_for_it (rw c.without_workers.ensures.done c.end_for_memory.ensures) (record { nobody = c.without_workers.ensures.nobody; doors = refl })

pub returns-in-Err-clause-left : goal.returns-in-Err-clause-left
returns-in-Err-clause-left g c = as_done _ c.without_workers.result _ c.without_workers.ensures.done (none_left _ _ _ _ c.end_for_memory.ensures.leaves)
