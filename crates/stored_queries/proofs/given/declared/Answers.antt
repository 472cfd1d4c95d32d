use Rattle.std.proofs.lemmas.Result.{err_from_is_err_and}
use Rattle.std.proofs.Common.{sym, ◌∙◌}
use Rattle.wfs_model.specs.Expand.{with_text, given_for}
use Rattle.stored_queries.proofs.Turns.{step_goes_on, step_fails, step_ends}
use Rattle.stored_queries.proofs.given.declared.Goals as goal

pub loop-name-preserved : goal.loop-name-preserved
loop-name-preserved c =
    step_goes_on (λ texts name. with_text c.args.schema.now c.args.queries.now texts name (given_for c.args.given.now name)) _ _ _ _ _ _ c.loop-name-test.true c.name-item.is c.in_ok-add_given.ensures c.loop-name.invariant

pub returns-in_err-add_given : goal.returns-in_err-add_given
returns-in_err-add_given c =
    let p = err_from_is_err_and c.from_residual.result c.from_residual.ensures.1 in
    rw (p.1, p.2) (step_fails (λ texts name. with_text c.args.schema.now c.args.queries.now texts name (given_for c.args.given.now name)) _ _ _ _ _ _ _ c.loop-name-test.true c.name-item.is c.in_err-add_given.ensures c.loop-name.invariant)

pub returns : goal.returns
returns c =
    sym c.loop-name.invariant ∙ step_ends (λ texts name. with_text c.args.schema.now c.args.queries.now texts name (given_for c.args.given.now name)) _ _ _ c.loop-name-test.false
