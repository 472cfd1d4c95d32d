use Rattle.grid_index.proofs.Spared.{spared_without}
use Rattle.grid_index.proofs.laws.spare_without.Goals as goal

pub returns : goal.returns
returns c = spared_without
