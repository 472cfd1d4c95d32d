use Rattle.std.proofs.Common.{sym, ◌∙◌}
use Rattle.std.proofs.lemmas.Result.{err_from_is_err_and}
use Rattle.gml_docs.proofs.Loops.{goes_on, fails, ends}
use Rattle.gml_docs.specs.Elements.{next_position}
use Rattle.gml_docs.proofs.path.positions_at.Goals as goal

pub loop-element-preserved : goal.loop-element-preserved
loop-element-preserved c = goes_on (next_position c.args.srs.now) _ _ _ _ _ c.loop-element-test.true c.element-item.is _ c.in_ok-add_position.ensures c.loop-element.invariant

pub returns-in_err-add_position : goal.returns-in_err-add_position
returns-in_err-add_position c =
    let p = err_from_is_err_and c.from_residual.result c.from_residual.ensures.1 in
    rw (p.1, p.2) (fails (next_position c.args.srs.now) _ _ _ _ _ c.loop-element-test.true c.element-item.is _ _ c.in_err-add_position.ensures c.loop-element.invariant)

pub returns : goal.returns
returns c = sym c.loop-element.invariant ∙ ends (next_position c.args.srs.now) _ _ _ c.loop-element-test.false
