use Rattle.std.proofs.Common.{[], ap, ◌∙◌, arith}
use Rattle.std.specs.HashMap.{get}
use Rattle.grid_index.specs.Lists.{listed, spare}
use Rattle.grid_index.specs.Places.{same_place}
use Rattle.grid_index.proofs.Looking.{set_same, set_roomier, set_here}
use Rattle.grid_index.proofs.lists.Lists.begin.Goals as goal

pub returns-in-Ok-clause-same : goal.returns-in-Ok-clause-same
returns-in-Ok-clause-same c =
    set_same (get same_place c.args.self.now.by_place) (get same_place c.insert.new.self) c.args.place c.reserve.new.self c.in-Ok.ensures.updates.0 [] (ap listed c.requires) (c.reserve.ensures.items ∙ c.new-list.ensures.items)

pub returns-in-Ok-clause-room : goal.returns-in-Ok-clause-room
returns-in-Ok-clause-room c =
    let here = set_here (get same_place c.args.self.now.by_place) (get same_place c.insert.new.self) c.args.place c.reserve.new.self c.in-Ok.ensures.updates.0 in
    omega (arith, here, c.in_ok-reserve.ensures.ok)

pub returns-in-Ok-clause-kept : goal.returns-in-Ok-clause-kept
returns-in-Ok-clause-kept c =
    set_roomier (get same_place c.args.self.now.by_place) (get same_place c.insert.new.self) c.args.place c.reserve.new.self c.in-Ok.ensures.updates.0 0 (ap spare c.requires) (omega arith)
