use Rattle.wfsd_commands.specs.Commands.{check_ends_early, looks}
use Rattle.wfsd_commands.proofs.Early as ends
use Rattle.wfsd_commands.proofs.commands.check_store.Goals as goal

pub returns-in-Ok-clause-checks : goal.returns-in-Ok-clause-checks
returns-in-Ok-clause-checks g c = looks c.in-Ok.schema (ends.has_loaded c.in-Ok.schema _ _ c.in-Ok.ensures.loaded c.in-Ok.ensures.calm) c.look.ensures.looks

pub returns-in-Err-clause-checks : goal.returns-in-Err-clause-checks
returns-in-Err-clause-checks g c = check_ends_early (ends.early _ _ _ c.in-Err.unloaded _ c.in-Err.ensures.loaded c.in-Err.ensures.calm c.end_unloaded.ensures)

pub returns-in-Err-clause-none : goal.returns-in-Err-clause-none
returns-in-Err-clause-none g c = ends.no_store _ _ _ c.in-Err.unloaded _ c.end_unloaded.ensures
