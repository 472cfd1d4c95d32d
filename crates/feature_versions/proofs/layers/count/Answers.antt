use Rattle.std.proofs.Common.{arith}
use Rattle.feature_versions.proofs.Typed.{count_step, count_within}
use Rattle.feature_versions.proofs.layers.count.Goals as goal

pub overflow_add-all : goal.overflow_add-all
overflow_add-all c =
    let within = count_within c.args.layers.now c.loop-layer.layer-index c.layer-item.result c.loop-layer-test.true c.layer-item.is in
    omega (arith, within, c.loop-layer.invariant, c.count.ensures, c.requires)

pub loop-layer-preserved : goal.loop-layer-preserved
loop-layer-preserved c =
    let step = count_step c.args.layers.now c.loop-layer.layer-index c.layer-item.result c.loop-layer-test.true c.layer-item.is in
    omega (arith, step, c.loop-layer.invariant, c.count.ensures)
