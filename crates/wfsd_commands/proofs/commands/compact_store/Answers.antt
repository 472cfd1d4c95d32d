use Rattle.wfsd_commands.specs.Commands.{compact_ends_early, shortens}
use Rattle.wfsd_commands.proofs.Early as ends
use Rattle.wfsd_commands.proofs.commands.compact_store.Goals as goal

pub returns-in-Ok-clause-compacts : goal.returns-in-Ok-clause-compacts
returns-in-Ok-clause-compacts g c = shortens c.in-Ok.schema (ends.has_loaded c.in-Ok.schema _ _ c.in-Ok.ensures.loaded c.in-Ok.ensures.calm) c.compact_with.ensures.shortens

pub returns-in-Err-clause-compacts : goal.returns-in-Err-clause-compacts
returns-in-Err-clause-compacts g c = compact_ends_early (ends.early _ _ _ c.in-Err.unloaded _ c.in-Err.ensures.loaded c.in-Err.ensures.calm c.end_unloaded.ensures)

pub returns-in-Err-clause-left : goal.returns-in-Err-clause-left
returns-in-Err-clause-left g c = ends.none_early _ _ _ _ c.in-Err.unloaded _ c.end_unloaded.ensures
