use Rattle.std.proofs.Common.{sym, ◌∙◌}
use Rattle.std.proofs.lemmas.Result.{err_from_is_err_and}
use Rattle.gml_docs.proofs.Loops.{goes_on, fails, ends}
use Rattle.wfs_requests.specs.Updates.{next_change}
use Rattle.wfs_requests.proofs.updates.all_changes.Goals as goal

pub loop-element-preserved : goal.loop-element-preserved
loop-element-preserved c = goes_on (next_change c.args.schema.now c.args.kind) _ _ _ _ _ c.loop-element-test.true c.element-item.is _ c.in_ok-add_change.ensures c.loop-element.invariant

pub returns-in_err-add_change : goal.returns-in_err-add_change
returns-in_err-add_change c =
    let p = err_from_is_err_and c.from_residual.result c.from_residual.ensures.1 in
    rw (p.1, p.2) (fails (next_change c.args.schema.now c.args.kind) _ _ _ _ _ c.loop-element-test.true c.element-item.is _ _ c.in_err-add_change.ensures c.loop-element.invariant)

pub returns : goal.returns
returns c = sym c.loop-element.invariant ∙ ends (next_change c.args.schema.now c.args.kind) _ _ _ c.loop-element-test.false
