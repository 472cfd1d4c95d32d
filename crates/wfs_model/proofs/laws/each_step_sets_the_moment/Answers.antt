use Rattle.wfs_model.proofs.Refusing.{step_moment}
use Rattle.wfs_model.proofs.laws.each_step_sets_the_moment.Goals as goal

pub returns : goal.returns
returns c = step_moment
