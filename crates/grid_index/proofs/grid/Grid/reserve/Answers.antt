use Rattle.grid_index.proofs.Gridding.{still_grid, no_less_room, spare_if}
use Rattle.grid_index.proofs.grid.Grid.reserve.Goals as goal

pub returns-clause-pairs : goal.returns-clause-pairs
returns-clause-pairs c = λ pairs h. still_grid c.self.inside.lists c.reserve.new.lists c.args.self.now pairs c.self.view_is c.reserve.ensures.same h

pub returns-clause-spare : goal.returns-clause-spare
returns-clause-spare c = spare_if c.reserve.result c.reserve.new.lists c.args.areas.now c.items.result.now c.items.ensures c.reserve.ensures.room

pub returns-clause-room : goal.returns-clause-room
returns-clause-room c = no_less_room c.self.inside.lists c.reserve.new.lists c.args.self.now c.self.view_is c.reserve.ensures.kept
