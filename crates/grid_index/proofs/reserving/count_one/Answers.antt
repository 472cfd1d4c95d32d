use Rattle.std.proofs.Common.{arith}
use Rattle.std.specs.HashMap.{get}
use Rattle.grid_index.specs.Places.{same_place}
use Rattle.grid_index.proofs.Looking.{counted_one}
use Rattle.grid_index.proofs.reserving.count_one.Goals as goal

pub returns-in-Ok : goal.returns-in-Ok
returns-in-Ok c = λ q. counted_one (get same_place c.args.counts.now) (get same_place c.insert.new.self) c.args.place c.in-Some.more (grind arith) c.in-Ok.ensures.updates.0 q
