use Rattle.wfsd_commands.specs.Drilled.{early, drilled}
use Rattle.wfsd_commands.proofs.Early as ends
use Rattle.wfsd_commands.proofs.drill_command.drill_rounds.Goals as goal

pub returns-in-Ok-clause-drills : goal.returns-in-Ok-clause-drills
returns-in-Ok-clause-drills g c = drilled c.in-Ok.schema (ends.has_loaded c.in-Ok.schema _ _ c.in-Ok.ensures.loaded c.in-Ok.ensures.calm) c.drill_on.ensures.drills

pub returns-in-Err-clause-drills : goal.returns-in-Err-clause-drills
returns-in-Err-clause-drills g c = early (ends.early _ _ _ c.in-Err.unloaded _ c.in-Err.ensures.loaded c.in-Err.ensures.calm c.end_unloaded.ensures)

pub returns-in-Err-clause-left : goal.returns-in-Err-clause-left
returns-in-Err-clause-left g c = ends.none_early _ _ _ _ c.in-Err.unloaded _ c.end_unloaded.ensures
