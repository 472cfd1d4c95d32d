use Rattle.grid_index.proofs.Gridding.{spare_here, added_in, room_used}
use Rattle.grid_index.proofs.grid.Grid.add.Goals as goal

pub put_in-requires : goal.put_in-requires
put_in-requires c = spare_here c.self.inside.lists c.args.self.now c.args.area c.self.view_is c.requires

pub returns-clause-pairs : goal.returns-clause-pairs
returns-clause-pairs c = λ pairs h. added_in c.self.inside.lists c.put_in.new.lists c.args.self.now pairs (c.args.id, c.args.area) c.self.view_is c.put_in.ensures.upright c.put_in.ensures.pairs h

pub returns-clause-room : goal.returns-clause-room
returns-clause-room c = room_used c.self.inside.lists c.put_in.new.lists c.args.self.now c.args.area c.self.view_is c.put_in.ensures.room
