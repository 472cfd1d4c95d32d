use Rattle.std.proofs.Common.{◌∙◌, arith}
use Rattle.std.specs.Map.Iter.{deref_pair}
use Rattle.std.proofs.lemmas.Map.Iter.{rest_more, rest_all}
use Rattle.grid_index.specs.Lists.{spare_at}
use Rattle.grid_index.proofs.Looking.{turn_next, turn_end}
use Rattle.grid_index.proofs.reserving.reserve_counts.Goals as goal

pub loop-place-preserved : goal.loop-place-preserved
loop-place-preserved c = record {
  same = λ q. c.make_room.ensures.same q ∙ c.loop-place.invariant.same q;
  kept = λ q. let one = c.make_room.ensures.kept q in let all = c.loop-place.invariant.kept q in omega (arith, one, all);
  turn = turn_next c.args.counts.now.entries c.loop-place.place-iterator _ c.in-Some.place.now c.in-Some.count.now (spare_at c.loop-place.lists) _ (rest_more deref_pair _ _ _ (c.in-Some.place, c.in-Some.count) c.in-Some.is c.next.ensures.steps) c.make_room.ensures.kept c.in_ok-make_room.ensures.room c.loop-place.invariant.turn;
}

pub returns-in_err-make_room-clause-same : goal.returns-in_err-make_room-clause-same
returns-in_err-make_room-clause-same c = λ q. c.make_room.ensures.same q ∙ c.loop-place.invariant.same q

pub returns-in_err-make_room-clause-kept : goal.returns-in_err-make_room-clause-kept
returns-in_err-make_room-clause-kept c = λ q. let one = c.make_room.ensures.kept q in let all = c.loop-place.invariant.kept q in omega (arith, one, all)

pub returns-clause-room : goal.returns-clause-room
returns-clause-room c = turn_end c.args.counts.now.entries c.loop-place.place-iterator (spare_at c.loop-place.lists) (rest_all deref_pair _ _ _ c.in-None.is c.next.ensures.steps) c.loop-place.invariant.turn
