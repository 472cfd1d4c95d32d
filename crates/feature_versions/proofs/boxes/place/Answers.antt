use Rattle.std.proofs.Common.{subst, append-nil, arith}
use Rattle.std.proofs.lemmas.List.Elements.{All-more, All-nil}
use Rattle.grid_index.specs.Gridded.{room_at}
use Rattle.feature_versions.specs.Placed.{IsBoxedIn}
use Rattle.feature_versions.proofs.Boxing.{sum_step, room_step, grid_step, grid_all, room_all}
use Rattle.feature_versions.proofs.boxes.place.Goals as goal

pub loop-value-init : goal.loop-value-init
loop-value-init c = record {
  pairs = λ pairs h. rw append-nil h;
  room = λ place. omega arith;
  boxed = All-nil IsBoxedIn;
}

pub add_box-requires : goal.add_box-requires
add_box-requires c = λ place.
    room_step c.items-value-items.result.now c.loop-value.value-index c.value-item.result c.loop-value-test.true c.value-item.is c.args.feature.now.values place (room_at c.args.grid.now.room place) (room_at c.loop-value.grid.room place) c.items-value-items.ensures
    (c.requires place) (c.loop-value.invariant.room place)

pub loop-value-preserved : goal.loop-value-preserved
loop-value-preserved c =
    let vs = c.items-value-items.result.now in
    let i = c.loop-value.value-index in
    let v = c.value-item.result in
    record {
      pairs = grid_step vs i v c.loop-value-test.true c.value-item.is c.args.feature.now.id c.args.grid.now c.loop-value.grid c.add_box.new.grid c.loop-value.invariant.pairs c.add_box.ensures.pairs;
      room = λ place. (let step = sum_step vs i v c.loop-value-test.true c.value-item.is place in let before = c.loop-value.invariant.room place in let one = c.add_box.ensures.room place in omega (arith, step, before, one));
      boxed = All-more IsBoxedIn vs i v c.loop-value-test.true c.loop-value.invariant.boxed (subst IsBoxedIn c.value-item.is c.add_box.ensures.boxed);
    }

pub returns-clause-pairs : goal.returns-clause-pairs
returns-clause-pairs c = λ pairs h.
    grid_all c.args.feature.now.id c.items-value-items.result.now c.args.feature.now.values c.loop-value.value-index c.loop-value.grid pairs c.items-value-items.ensures c.loop-value-test.false (c.loop-value.invariant.pairs pairs h)

pub returns-clause-room : goal.returns-clause-room
returns-clause-room c = λ place.
    room_all c.items-value-items.result.now c.args.feature.now.values c.loop-value.value-index place (room_at c.args.grid.now.room place) (room_at c.loop-value.grid.room place) c.items-value-items.ensures c.loop-value-test.false (c.loop-value.invariant.room place)
