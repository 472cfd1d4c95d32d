use Rattle.std.proofs.Common.{ap, arith}
use Rattle.grid_index.specs.Lists.{listed_at}
use Rattle.grid_index.specs.Near.{is_among}
use Rattle.grid_index.proofs.Nearby.{first_start, first_next, first_end}
use Rattle.grid_index.proofs.places.collect_near.Goals as goal

pub loop-i-init : goal.loop-i-init
loop-i-init c = record {
  marked = c.in_ok-collect.ensures.marked;
  finds = λ f. first_start (listed_at c.args.lists.now) c.args.asked.now f _ _ (ap (is_among f) c.requires.none) (c.in_ok-collect.ensures.finds f);
}

pub loop-i-preserved : goal.loop-i-preserved
loop-i-preserved c = record {
  marked = c.in_ok-collect-2.ensures.marked;
  finds = λ f. first_next (listed_at c.args.lists.now) c.args.asked.now f c.loop-i.i c.cell_at.result _ _ c.cell_at.ensures (c.loop-i.invariant.finds f) (c.in_ok-collect-2.ensures.finds f);
}

pub returns-clause-finds : goal.returns-clause-finds
returns-clause-finds c = λ f. first_end (listed_at c.args.lists.now) c.args.asked.now f c.loop-i.i _ (omega arith) (c.loop-i.invariant.finds f)
