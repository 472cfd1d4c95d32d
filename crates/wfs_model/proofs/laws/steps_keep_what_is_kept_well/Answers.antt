use Rattle.wfs_model.proofs.Keeping.{step_keeps}
use Rattle.wfs_model.proofs.laws.steps_keep_what_is_kept_well.Goals as goal

pub returns : goal.returns
returns c = step_keeps
