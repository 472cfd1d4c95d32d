use Rattle.std.proofs.Common.{arith}
use Rattle.grid_index.specs.Found.{is_of}
use Rattle.grid_index.proofs.Marked.{any_start, any_next, any_end}
use Rattle.grid_index.proofs.found.Found.add_all.Goals as goal

pub loop-pair-init : goal.loop-pair-init
loop-pair-init c = record {
  marked = c.requires;
  finds = λ f. any_start (is_of f) _;
}

pub loop-pair-preserved : goal.loop-pair-preserved
loop-pair-preserved c = record {
  marked = c.in_ok-add.ensures.marked;
  finds = λ f. any_next (is_of f) c.args.pairs.now c.loop-pair.pair-index c.pair-item.result _ _ _ (omega arith) c.pair-item.is (c.loop-pair.invariant.finds f) (c.in_ok-add.ensures.ids f);
}

pub returns-clause-finds : goal.returns-clause-finds
returns-clause-finds c = λ f. any_end (is_of f) c.args.pairs.now c.loop-pair.pair-index _ _ (omega arith) (c.loop-pair.invariant.finds f)
