use Rattle.std.proofs.Common.{sym, ◌∙◌}
use Rattle.std.proofs.lemmas.Result.{err_from_is_err_and}
use Rattle.gml_docs.proofs.Loops.{goes_on, fails, ends}
use Rattle.kvp_queries.specs.Request.{next_type}
use Rattle.kvp_queries.proofs.describing.all_types.Goals as goal

pub loop-name-preserved : goal.loop-name-preserved
loop-name-preserved c = goes_on (next_type c.args.schema.now) _ _ _ _ _ c.loop-name-test.true c.name-item.is _ c.in_ok-add_type.ensures c.loop-name.invariant

pub returns-in_err-add_type : goal.returns-in_err-add_type
returns-in_err-add_type c =
    let p = err_from_is_err_and c.from_residual.result c.from_residual.ensures.1 in
    rw (p.1, p.2) (fails (next_type c.args.schema.now) _ _ _ _ _ c.loop-name-test.true c.name-item.is _ _ c.in_err-add_type.ensures c.loop-name.invariant)

pub returns : goal.returns
returns c = sym c.loop-name.invariant ∙ ends (next_type c.args.schema.now) _ _ _ c.loop-name-test.false
