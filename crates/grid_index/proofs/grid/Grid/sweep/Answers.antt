use Rattle.grid_index.proofs.Gridding.{still_grid}
use Rattle.grid_index.proofs.grid.Grid.sweep.Goals as goal

pub returns : goal.returns
returns c = λ pairs h. still_grid c.self.inside.lists c.sweep.new.self c.args.self.now pairs c.self.view_is c.sweep.ensures h
