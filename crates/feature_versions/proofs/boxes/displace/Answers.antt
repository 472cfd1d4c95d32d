use Rattle.std.proofs.Common.{List, ◌++◌, sym, subst, arith}
use Rattle.feature_values.specs.declared.value.Value.{Value}
use Rattle.grid_index.specs.Gridded.{pairs_at, IsGridOf}
use Rattle.feature_versions.specs.Placed.{placed}
use Rattle.feature_versions.proofs.Boxing.{flat, left_step, left_all}
use Rattle.feature_versions.proofs.boxes.displace.Goals as goal

pub loop-value-init : goal.loop-value-init
loop-value-init c = record {
  pairs = λ pairs h. subst (λ (vs : List Value). IsGridOf (pairs_at c.args.grid.now) (placed c.args.feature.now.id (flat vs) ++ pairs)) (sym c.items-value-items.ensures) h;
  room = λ place. omega arith;
}

pub loop-value-preserved : goal.loop-value-preserved
loop-value-preserved c = record {
  pairs = left_step c.items-value-items.result.now c.loop-value.value-index c.value-item.result c.loop-value-test.true c.value-item.is c.args.feature.now.id c.args.feature.now.values c.args.grid.now c.loop-value.grid c.remove_box.new.grid c.loop-value.invariant.pairs
      c.remove_box.ensures.pairs;
  room = λ place. (let before = c.loop-value.invariant.room place in let one = c.remove_box.ensures.room place in omega (arith, before, one));
}

pub returns-clause-pairs : goal.returns-clause-pairs
returns-clause-pairs c = λ pairs h. left_all c.args.feature.now.id c.items-value-items.result.now c.loop-value.value-index c.loop-value.grid pairs c.loop-value-test.false (c.loop-value.invariant.pairs pairs h)
