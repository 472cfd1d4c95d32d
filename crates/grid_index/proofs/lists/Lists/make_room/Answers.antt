use Rattle.std.proofs.Common.{sym, ap, arith, rules}
use Rattle.std.specs.HashMap.{get}
use Rattle.grid_index.specs.Lists.{listed, spare, spare_of}
use Rattle.grid_index.specs.Places.{same_place}
use Rattle.grid_index.proofs.Looking.{set_same, set_roomier}
use Rattle.grid_index.proofs.lists.Lists.make_room.Goals as goal

pub begin-requires : goal.begin-requires
begin-requires c = rw c.get_mut.follows.holds-at-none (sym c.in-None.ensures.value)

pub returns-in_err-reserve-in-Some-clause-same : goal.returns-in_err-reserve-in-Some-clause-same
returns-in_err-reserve-in-Some-clause-same c =
    set_same (get same_place c.args.self.now.by_place) (get same_place (c.get_mut.follows.lender c.reserve.new.self)) c.args.place c.reserve.new.self ((c.get_mut.follows.holds c.reserve.new.self).3 (search rules)).0
    c.in-Some.list.now.items (ap listed (sym c.in-Some.ensures.value)) c.reserve.ensures.items

pub returns-in_err-reserve-in-Some-clause-kept : goal.returns-in_err-reserve-in-Some-clause-kept
returns-in_err-reserve-in-Some-clause-kept c =
    set_roomier (get same_place c.args.self.now.by_place) (get same_place (c.get_mut.follows.lender c.reserve.new.self)) c.args.place c.reserve.new.self ((c.get_mut.follows.holds c.reserve.new.self).3 (search rules)).0
    (spare_of c.in-Some.list.now) (ap spare (sym c.in-Some.ensures.value)) (omega (arith, c.reserve.ensures.len, c.reserve.ensures.capacity))

pub returns-in_ok-reserve-in-Some-clause-same : goal.returns-in_ok-reserve-in-Some-clause-same
returns-in_ok-reserve-in-Some-clause-same c =
    set_same (get same_place c.args.self.now.by_place) (get same_place (c.get_mut.follows.lender c.reserve.new.self)) c.args.place c.reserve.new.self ((c.get_mut.follows.holds c.reserve.new.self).3 (search rules)).0
    c.in-Some.list.now.items (ap listed (sym c.in-Some.ensures.value)) c.reserve.ensures.items

pub returns-in_ok-reserve-in-Some-clause-kept : goal.returns-in_ok-reserve-in-Some-clause-kept
returns-in_ok-reserve-in-Some-clause-kept c =
    set_roomier (get same_place c.args.self.now.by_place) (get same_place (c.get_mut.follows.lender c.reserve.new.self)) c.args.place c.reserve.new.self ((c.get_mut.follows.holds c.reserve.new.self).3 (search rules)).0
    (spare_of c.in-Some.list.now) (ap spare (sym c.in-Some.ensures.value)) (omega (arith, c.reserve.ensures.len, c.reserve.ensures.capacity))
