use Rattle.grid_index.proofs.Gridding.{new_grid}
use Rattle.grid_index.proofs.grid.Grid.new.Goals as goal

pub returns : goal.returns
returns c = new_grid c.new.result c.new.ensures
