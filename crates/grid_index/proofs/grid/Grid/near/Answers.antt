use Rattle.grid_index.proofs.Gridding.{open_grid}
use Rattle.grid_index.proofs.Meeting.{near_in, met_in}
use Rattle.grid_index.proofs.grid.Grid.near.Goals as goal

pub returns-then-is_for_all-clause-exact : goal.returns-then-is_for_all-clause-exact
returns-then-is_for_all-clause-exact c = λ pairs h. near_in c.args.area.now pairs _ _ c.of.ensures (c.in_ok-among_all.ensures pairs (open_grid c.self.inside.lists c.args.self.now pairs c.self.view_is h))

pub returns-then-is_for_all-clause-meeting : goal.returns-then-is_for_all-clause-meeting
returns-then-is_for_all-clause-meeting c = λ pairs h. met_in c.args.area.now pairs _ _ c.of.ensures (c.in_ok-among_all.ensures pairs (open_grid c.self.inside.lists c.args.self.now pairs c.self.view_is h))

pub in_cells-requires : goal.in_cells-requires
in_cells-requires c = c.is_for_all.ensures c.if-is_for_all.false

pub returns-clause-exact : goal.returns-clause-exact
returns-clause-exact c = λ pairs h. near_in c.args.area.now pairs _ _ c.of-2.ensures (c.in_ok-in_cells.ensures pairs (open_grid c.self.inside.lists c.args.self.now pairs c.self.view_is h))

pub returns-clause-meeting : goal.returns-clause-meeting
returns-clause-meeting c = λ pairs h. met_in c.args.area.now pairs _ _ c.of-2.ensures (c.in_ok-in_cells.ensures pairs (open_grid c.self.inside.lists c.args.self.now pairs c.self.view_is h))
