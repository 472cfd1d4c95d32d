use Rattle.wfs_world.proofs.Leading.{stays}
use Rattle.wfs_world.proofs.laws.what_has_entered_stays.Goals as goal

pub returns : goal.returns
returns c = stays
