use Rattle.grid_index.proofs.Spared.{spared_alone}
use Rattle.grid_index.proofs.laws.spare_alone.Goals as goal

pub returns : goal.returns
returns c = spared_alone
