use Rattle.std.proofs.Common.{arith}
use Rattle.grid_index.specs.Counts.{is_pair}
use Rattle.grid_index.proofs.OneByOne.{taken_next, taken_all}
use Rattle.grid_index.proofs.places.take_out.Goals as goal

pub loop-i-init : goal.loop-i-init
loop-i-init c = record {
  pairs = λ q p. omega arith;
  room = λ q. omega arith;
}

pub loop-i-preserved : goal.loop-i-preserved
loop-i-preserved c = record {
  pairs = λ q p. taken_next c.args.area c.loop-i.i c.place_at.result q (is_pair p (c.args.id, c.args.area)) _ _ _ (omega arith) c.place_at.ensures (c.loop-i.invariant.pairs q p) (c.take.ensures.pairs q p);
  room = λ q. let one = c.take.ensures.room q in let all = c.loop-i.invariant.room q in omega (arith, one, all);
}

pub returns-clause-pairs : goal.returns-clause-pairs
returns-clause-pairs c = λ q p. taken_all c.args.area c.loop-i.i q (is_pair p (c.args.id, c.args.area)) _ _ c.places-i-end.ensures.upright (omega arith) (c.loop-i.invariant.pairs q p)
