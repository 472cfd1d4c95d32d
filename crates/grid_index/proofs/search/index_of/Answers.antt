use Rattle.std.proofs.Common.{arith}
use Rattle.grid_index.proofs.Counts.{none_next, none_end, at_any}
use Rattle.grid_index.proofs.search.index_of.Goals as goal

pub loop-i-preserved : goal.loop-i-preserved
loop-i-preserved c = none_next (c.args.id, c.args.area) c.args.pairs.now c.loop-i.i c.index-pairs-i.result (omega arith) c.index-pairs-i.is (c.is_pair.ensures.no c.if-is_pair.false) c.loop-i.invariant

pub returns-then-is_pair-clause-is : goal.returns-then-is_pair-clause-is
returns-then-is_pair-clause-is c = λ d. at_any c.args.pairs.now c.loop-i.i c.index-pairs-i.result d _ (omega arith) c.index-pairs-i.is (c.is_pair.ensures.yes c.if-is_pair.true)

pub returns-clause-none : goal.returns-clause-none
returns-clause-none c = none_end (c.args.id, c.args.area) c.args.pairs.now c.loop-i.i (omega arith) c.loop-i.invariant
