use Rattle.std.proofs.Common.{refl, ◌∙◌, arith}
use Rattle.grid_index.specs.Lists.{spare_at}
use Rattle.grid_index.proofs.OneByOne.{made_next, first_all}
use Rattle.grid_index.proofs.reserving.reserve_one.Goals as goal

pub loop-i-init : goal.loop-i-init
loop-i-init c = record {
  same = λ q. refl;
  kept = λ q. omega arith;
  room = λ q. omega arith;
}

pub loop-i-preserved : goal.loop-i-preserved
loop-i-preserved c = record {
  same = λ q. c.make_room.ensures.same q ∙ c.loop-i.invariant.same q;
  kept = λ q. let one = c.make_room.ensures.kept q in let all = c.loop-i.invariant.kept q in omega (arith, one, all);
  room = made_next c.args.area.now c.loop-i.i c.place_at.result (spare_at c.loop-i.lists) _ (omega arith) c.place_at.ensures c.loop-i.invariant.room c.make_room.ensures.kept c.in_ok-make_room.ensures.room;
}

pub returns-in_err-make_room-clause-same : goal.returns-in_err-make_room-clause-same
returns-in_err-make_room-clause-same c = λ q. c.make_room.ensures.same q ∙ c.loop-i.invariant.same q

pub returns-in_err-make_room-clause-kept : goal.returns-in_err-make_room-clause-kept
returns-in_err-make_room-clause-kept c = λ q. let one = c.make_room.ensures.kept q in let all = c.loop-i.invariant.kept q in omega (arith, one, all)

pub returns-clause-room : goal.returns-clause-room
returns-clause-room c = λ q. let all = first_all c.args.area.now c.loop-i.i q c.places-i-end.ensures.upright (omega arith) in omega (arith, all, c.loop-i.invariant.room q)
