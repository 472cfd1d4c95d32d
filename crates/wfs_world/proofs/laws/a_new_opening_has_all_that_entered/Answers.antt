use Rattle.wfs_world.proofs.Leading.{recovered}
use Rattle.wfs_world.proofs.laws.a_new_opening_has_all_that_entered.Goals as goal

pub returns : goal.returns
returns c = recovered
