use Rattle.std.proofs.Common.{sym, arith, rules}
use Rattle.std.specs.HashMap.{get}
use Rattle.grid_index.specs.Places.{same_place}
use Rattle.grid_index.proofs.Looking.{set_pushed, set_used}
use Rattle.grid_index.proofs.lists.Lists.push.Goals as goal

pub returns-then-is_first-clause-pairs : goal.returns-then-is_first-clause-pairs
returns-then-is_first-clause-pairs c =
    set_pushed (get same_place c.args.self.now.by_place) (get same_place (c.get_mut.follows.lender c.push_on-is_first.new.list)) c.args.place c.push_on-is_first.new.list ((c.get_mut.follows.holds c.push_on-is_first.new.list).3 (search rules)).0
    c.in-Some.list.now (c.args.id, c.args.area) (sym c.in-Some.ensures.value) c.push_on-is_first.ensures.items

pub returns-then-is_first-clause-room : goal.returns-then-is_first-clause-room
returns-then-is_first-clause-room c =
    set_used (get same_place c.args.self.now.by_place) (get same_place (c.get_mut.follows.lender c.push_on-is_first.new.list)) c.args.place c.push_on-is_first.new.list ((c.get_mut.follows.holds c.push_on-is_first.new.list).3 (search rules)).0
    c.in-Some.list.now (sym c.in-Some.ensures.value) (omega (arith, c.push_on-is_first.ensures.len, c.push_on-is_first.ensures.capacity))

pub returns-else-is_first-clause-pairs : goal.returns-else-is_first-clause-pairs
returns-else-is_first-clause-pairs c =
    set_pushed (get same_place c.args.self.now.by_place) (get same_place (c.get_mut.follows.lender c.push_on-is_first.new.list)) c.args.place c.push_on-is_first.new.list ((c.get_mut.follows.holds c.push_on-is_first.new.list).3 (search rules)).0
    c.in-Some.list.now (c.args.id, c.args.area) (sym c.in-Some.ensures.value) c.push_on-is_first.ensures.items

pub returns-else-is_first-clause-room : goal.returns-else-is_first-clause-room
returns-else-is_first-clause-room c =
    set_used (get same_place c.args.self.now.by_place) (get same_place (c.get_mut.follows.lender c.push_on-is_first.new.list)) c.args.place c.push_on-is_first.new.list ((c.get_mut.follows.holds c.push_on-is_first.new.list).3 (search rules)).0
    c.in-Some.list.now (sym c.in-Some.ensures.value) (omega (arith, c.push_on-is_first.ensures.len, c.push_on-is_first.ensures.capacity))
