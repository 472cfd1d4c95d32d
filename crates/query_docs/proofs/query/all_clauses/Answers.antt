use Rattle.std.proofs.Common.{sym, ◌∙◌}
use Rattle.std.specs.Option.{option_copied}
use Rattle.std.proofs.lemmas.Result.{err_from_is_err_and}
use Rattle.gml_docs.proofs.Loops.{goes_on, fails, ends}
use Rattle.query_docs.specs.Queries.{next_clause}
use Rattle.query_docs.proofs.query.all_clauses.Goals as goal

pub loop-element-preserved : goal.loop-element-preserved
loop-element-preserved c = goes_on (next_clause (option_copied c.args.parameters) c.args.schema.now c.args.kind) _ _ _ _ _ c.loop-element-test.true c.element-item.is _ c.in_ok-add_clause.ensures c.loop-element.invariant

pub returns-in_err-add_clause : goal.returns-in_err-add_clause
returns-in_err-add_clause c =
    let p = err_from_is_err_and c.from_residual.result c.from_residual.ensures.1 in
    rw (p.1, p.2) (fails (next_clause (option_copied c.args.parameters) c.args.schema.now c.args.kind) _ _ _ _ _ c.loop-element-test.true c.element-item.is _ _ c.in_err-add_clause.ensures c.loop-element.invariant)

pub returns : goal.returns
returns c = sym c.loop-element.invariant ∙ ends (next_clause (option_copied c.args.parameters) c.args.schema.now c.args.kind) _ _ _ c.loop-element-test.false
