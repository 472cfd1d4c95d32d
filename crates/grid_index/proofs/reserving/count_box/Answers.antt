use Rattle.std.proofs.Common.{arith}
use Rattle.grid_index.proofs.OneByOne.{count_next, first_all}
use Rattle.grid_index.proofs.reserving.count_box.Goals as goal

pub loop-i-init : goal.loop-i-init
loop-i-init c = λ q. omega arith

pub loop-i-preserved : goal.loop-i-preserved
loop-i-preserved c = λ q. count_next c.args.area.now c.loop-i.i c.place_at.result q _ _ _ (omega arith) c.place_at.ensures (c.loop-i.invariant q) (c.in_ok-count_one.ensures q)

pub returns : goal.returns
returns c = λ q. let all = first_all c.args.area.now c.loop-i.i q c.places-i-end.ensures.upright (omega arith) in omega (arith, all, c.loop-i.invariant q)
