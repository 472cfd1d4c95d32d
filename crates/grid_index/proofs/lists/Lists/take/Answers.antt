use Rattle.std.proofs.Common.{sym, ap, arith, rules}
use Rattle.std.specs.HashMap.{get}
use Rattle.grid_index.specs.Lists.{spare, spare_of}
use Rattle.grid_index.specs.Places.{same_place}
use Rattle.grid_index.proofs.Looking.{set_taken, set_roomier, none_taken}
use Rattle.grid_index.proofs.lists.Lists.take.Goals as goal

pub returns-then-was_last-clause-pairs : goal.returns-then-was_last-clause-pairs
returns-then-was_last-clause-pairs c =
    set_taken (get same_place c.args.self.now.by_place) (get same_place (c.get_mut.follows.lender c.take_from-was_last.new.list)) c.args.place c.take_from-was_last.new.list ((c.get_mut.follows.holds c.take_from-was_last.new.list).3 (search rules)).0
    c.in-Some.list.now (c.args.id, c.args.area) (sym c.in-Some.ensures.value) c.take_from-was_last.ensures.pairs

pub returns-then-was_last-clause-room : goal.returns-then-was_last-clause-room
returns-then-was_last-clause-room c =
    set_roomier (get same_place c.args.self.now.by_place) (get same_place (c.get_mut.follows.lender c.take_from-was_last.new.list)) c.args.place c.take_from-was_last.new.list ((c.get_mut.follows.holds c.take_from-was_last.new.list).3 (search rules)).0
    (spare_of c.in-Some.list.now) (ap spare (sym c.in-Some.ensures.value)) (omega (arith, c.take_from-was_last.ensures.len, c.take_from-was_last.ensures.capacity))

pub returns-else-was_last-clause-pairs : goal.returns-else-was_last-clause-pairs
returns-else-was_last-clause-pairs c =
    set_taken (get same_place c.args.self.now.by_place) (get same_place (c.get_mut.follows.lender c.take_from-was_last.new.list)) c.args.place c.take_from-was_last.new.list ((c.get_mut.follows.holds c.take_from-was_last.new.list).3 (search rules)).0
    c.in-Some.list.now (c.args.id, c.args.area) (sym c.in-Some.ensures.value) c.take_from-was_last.ensures.pairs

pub returns-else-was_last-clause-room : goal.returns-else-was_last-clause-room
returns-else-was_last-clause-room c =
    set_roomier (get same_place c.args.self.now.by_place) (get same_place (c.get_mut.follows.lender c.take_from-was_last.new.list)) c.args.place c.take_from-was_last.new.list ((c.get_mut.follows.holds c.take_from-was_last.new.list).3 (search rules)).0
    (spare_of c.in-Some.list.now) (ap spare (sym c.in-Some.ensures.value)) (omega (arith, c.take_from-was_last.ensures.len, c.take_from-was_last.ensures.capacity))

pub returns-in_default-clause-pairs : goal.returns-in_default-clause-pairs
returns-in_default-clause-pairs c = λ q p.
    rw c.get_mut.follows.holds-at-none (none_taken (get same_place c.args.self.now.by_place) c.args.place (c.args.id, c.args.area) (sym c.in_default.ensures.value) q p)
