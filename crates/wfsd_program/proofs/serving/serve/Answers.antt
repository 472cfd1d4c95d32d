use Rattle.std.proofs.Common.{refl}
use Rattle.wfsd_commands.proofs.Early as ends
use Rattle.wfsd_program.specs.Serving.{early, serves}
use Rattle.wfsd_program.proofs.Standing.{as_done}
use Rattle.wfsd_program.proofs.serving.serve.Goals as goal

pub returns-in-Ok-clause-serves : goal.returns-in-Ok-clause-serves
returns-in-Ok-clause-serves g c = serves c.in-Ok.schema (ends.has_loaded c.in-Ok.schema _ _ c.in-Ok.ensures.loaded c.in-Ok.ensures.calm) c.serve_with.ensures.serves

pub returns-in-Err-clause-serves : goal.returns-in-Err-clause-serves
returns-in-Err-clause-serves g c =
    early (rw c.without_workers.ensures.done (ends.early _ _ _ c.in-Err.unloaded _ c.in-Err.ensures.loaded c.in-Err.ensures.calm c.end_unloaded.ensures))
    (record { nobody = c.without_workers.ensures.nobody; doors = refl })

pub returns-in-Err-clause-left : goal.returns-in-Err-clause-left
returns-in-Err-clause-left g c = as_done _ c.without_workers.result _ c.without_workers.ensures.done (ends.none_early _ _ _ _ c.in-Err.unloaded _ c.end_unloaded.ensures)
