use Rattle.std.proofs.Common.{sym, ◌∙◌}
use Rattle.std.proofs.lemmas.Result.{err_from_is_err_and}
use Rattle.gml_docs.proofs.Loops.{goes_on, fails, ends}
use Rattle.wfs_requests.specs.Describing.{next_type}
use Rattle.wfs_requests.proofs.describing.all_types.Goals as goal

pub loop-element-preserved : goal.loop-element-preserved
loop-element-preserved c = goes_on (next_type c.args.schema.now) _ _ _ _ _ c.loop-element-test.true c.element-item.is _ c.in_ok-add_type.ensures c.loop-element.invariant

pub returns-in_err-add_type : goal.returns-in_err-add_type
returns-in_err-add_type c =
    let p = err_from_is_err_and c.from_residual.result c.from_residual.ensures.1 in
    rw (p.1, p.2) (fails (next_type c.args.schema.now) _ _ _ _ _ c.loop-element-test.true c.element-item.is _ _ c.in_err-add_type.ensures c.loop-element.invariant)

pub returns : goal.returns
returns c = sym c.loop-element.invariant ∙ ends (next_type c.args.schema.now) _ _ _ c.loop-element-test.false
