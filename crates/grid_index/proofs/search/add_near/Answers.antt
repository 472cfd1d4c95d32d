use Rattle.std.proofs.Common.{arith}
use Rattle.grid_index.specs.Near.{puts_near}
use Rattle.grid_index.proofs.Marked.{any_start, any_next, any_end}
use Rattle.grid_index.proofs.search.add_near.Goals as goal

pub loop-pair-init : goal.loop-pair-init
loop-pair-init c = record {
  marked = c.requires;
  finds = λ f. any_start (puts_near c.args.asked.now f) _;
}

pub loop-pair-preserved : goal.loop-pair-preserved
loop-pair-preserved c = record {
  marked = c.in_ok-add_if_near.ensures.marked;
  finds = λ f. any_next (puts_near c.args.asked.now f) c.args.pairs.now c.loop-pair.pair-index c.pair-item.result _ _ _ (omega arith) c.pair-item.is (c.loop-pair.invariant.finds f) (c.in_ok-add_if_near.ensures.finds f);
}

pub returns-clause-finds : goal.returns-clause-finds
returns-clause-finds c = λ f. any_end (puts_near c.args.asked.now f) c.args.pairs.now c.loop-pair.pair-index _ _ (omega arith) (c.loop-pair.invariant.finds f)
