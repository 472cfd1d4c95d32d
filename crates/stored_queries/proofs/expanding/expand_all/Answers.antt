use Rattle.std.proofs.Common.{sym, refl, ◌∙◌}
use Rattle.std.proofs.lemmas.Result.{err_from_is_err_and}
use Rattle.wfs_model.specs.Expand.{expanded, all_expanded}
use Rattle.stored_queries.specs.Meant.{with_more}
use Rattle.stored_queries.proofs.Turns.{step_goes_on, step_fails, step_ends}
use Rattle.stored_queries.proofs.expanding.expand_all.Goals as goal

pub loop-one-init : goal.loop-one-init
unfolding all_expanded
loop-one-init c = rw c.new-all.ensures.items refl

pub loop-one-preserved : goal.loop-one-preserved
loop-one-preserved c =
    step_goes_on (λ queries one. with_more queries (expanded c.args.schema.now c.args.stored.now one)) _ _ _ _ _ _ c.loop-one-test.true c.one-item.is c.in_ok-add_expanded.ensures c.loop-one.invariant

pub returns-in_err-add_expanded : goal.returns-in_err-add_expanded
returns-in_err-add_expanded c =
    let p = err_from_is_err_and c.from_residual.result c.from_residual.ensures.1 in
    rw (p.1, p.2) (step_fails (λ queries one. with_more queries (expanded c.args.schema.now c.args.stored.now one)) _ _ _ _ _ _ _ c.loop-one-test.true c.one-item.is c.in_err-add_expanded.ensures c.loop-one.invariant)

pub returns : goal.returns
returns c =
    sym c.loop-one.invariant ∙ step_ends (λ queries one. with_more queries (expanded c.args.schema.now c.args.stored.now one)) _ _ _ c.loop-one-test.false
