use Rattle.std.proofs.Common.{sym, ◌∙◌}
use Rattle.std.proofs.lemmas.Result.{err_from_is_err_and}
use Rattle.gml_docs.proofs.Loops.{goes_on, fails, ends}
use Rattle.wfs_requests.specs.Fetching.{next_asked}
use Rattle.wfs_requests.proofs.fetching.asked_in.Goals as goal

pub loop-element-preserved : goal.loop-element-preserved
loop-element-preserved c = goes_on (next_asked c.args.schema.now) _ _ _ _ _ c.loop-element-test.true c.element-item.is _ c.in_ok-add_asked.ensures c.loop-element.invariant

pub returns-in_err-add_asked : goal.returns-in_err-add_asked
returns-in_err-add_asked c =
    let p = err_from_is_err_and c.from_residual.result c.from_residual.ensures.1 in
    rw (p.1, p.2) (fails (next_asked c.args.schema.now) _ _ _ _ _ c.loop-element-test.true c.element-item.is _ _ c.in_err-add_asked.ensures c.loop-element.invariant)

pub returns : goal.returns
returns c = sym c.loop-element.invariant ∙ ends (next_asked c.args.schema.now) _ _ _ c.loop-element-test.false
