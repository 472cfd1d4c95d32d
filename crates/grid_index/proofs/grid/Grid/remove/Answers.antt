use Rattle.grid_index.specs.Gridded.{pairs_at}
use Rattle.grid_index.proofs.Gridding.{removed, taken_in, no_less_room}
use Rattle.grid_index.proofs.grid.Grid.remove.Goals as goal

pub returns-clause-pairs : goal.returns-clause-pairs
returns-clause-pairs c = λ before after h.
    removed (pairs_at c.args.self.now) _ before after (c.args.id, c.args.area) (taken_in c.self.inside.lists c.take_out.new.lists c.args.self.now (c.args.id, c.args.area) c.self.view_is c.take_out.ensures.pairs) h

pub returns-clause-others : goal.returns-clause-others
returns-clause-others c = taken_in c.self.inside.lists c.take_out.new.lists c.args.self.now (c.args.id, c.args.area) c.self.view_is c.take_out.ensures.pairs

pub returns-clause-room : goal.returns-clause-room
returns-clause-room c = no_less_room c.self.inside.lists c.take_out.new.lists c.args.self.now c.self.view_is c.take_out.ensures.room
