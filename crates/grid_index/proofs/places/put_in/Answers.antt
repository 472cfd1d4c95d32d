use Rattle.std.proofs.Common.{arith}
use Rattle.grid_index.specs.Lists.{listed_at, spare_at}
use Rattle.grid_index.proofs.OneByOne.{put_next, put_all, room_here, used_next, first_all}
use Rattle.grid_index.proofs.places.put_in.Goals as goal

pub push-requires : goal.push-requires
push-requires c =
    room_here (spare_at c.args.lists.now) (spare_at c.loop-i.lists) c.args.area c.loop-i.i c.place_at.result c.places-i-end.ensures.upright (omega arith) c.place_at.ensures c.requires c.loop-i.invariant.room

pub loop-i-preserved : goal.loop-i-preserved
loop-i-preserved c = record {
  pairs = put_next (listed_at c.args.lists.now) (listed_at c.loop-i.lists) _ c.args.area c.loop-i.i (c.args.id, c.args.area) c.place_at.result (omega arith) c.place_at.ensures c.loop-i.invariant.pairs c.push.ensures.pairs;
  room = λ q. used_next c.args.area c.loop-i.i c.place_at.result q _ _ _ (omega arith) c.place_at.ensures (c.loop-i.invariant.room q) (c.push.ensures.room q);
}

pub returns-clause-pairs : goal.returns-clause-pairs
returns-clause-pairs c = put_all (listed_at c.args.lists.now) _ c.args.area c.loop-i.i (c.args.id, c.args.area) c.places-i-end.ensures.upright (omega arith) c.loop-i.invariant.pairs

pub returns-clause-room : goal.returns-clause-room
returns-clause-room c = λ q. let all = first_all c.args.area c.loop-i.i q c.places-i-end.ensures.upright (omega arith) in omega (arith, all, c.loop-i.invariant.room q)
