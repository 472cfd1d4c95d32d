use Rattle.std.proofs.Common.{sym, ap, ◌∙◌}
use Rattle.wfs_model.specs.Acts.{with_value}
use Rattle.transaction_core.proofs.Folding.{fold_more}
use Rattle.transaction_core.proofs.changing.set_values.Goals as goal

pub loop-set-preserved : goal.loop-set-preserved
loop-set-preserved c =
    c.in_ok-set_value.ensures ∙ ap (λ values. with_value values c.set-item.result) c.loop-set.invariant
    ∙ sym (fold_more with_value c.args.values.now c.args.sets.now c.loop-set.set-index c.set-item.result c.loop-set-test.true c.set-item.is)
