use Rattle.std.proofs.Common.{sym, ◌∙◌}
use Rattle.std.proofs.lemmas.Result.{err_from_is_err_and}
use Rattle.wfs_model.specs.Expand.{expanded}
use Rattle.stored_queries.specs.Meant.{with_selected}
use Rattle.stored_queries.proofs.Behind.{each_selected}
use Rattle.stored_queries.proofs.Turns.{step_goes_on, step_fails, step_ends}
use Rattle.stored_queries.proofs.selecting.select_asked.Goals as goal

pub loop-one-init : goal.loop-one-init
loop-one-init g c = rw c.nothing-ids.ensures (each_selected c.args.schema.now c.args.stored.now _ c.args.asked.now)

pub loop-one-preserved : goal.loop-one-preserved
loop-one-preserved g c =
    step_goes_on (λ ids one. with_selected (g.V.FeatureView.features c.args.view.now) ids (expanded c.args.schema.now c.args.stored.now one)) _ _ _ _ _ _ c.loop-one-test.true c.one-item.is c.in_ok-ids.ensures c.loop-one.invariant

pub returns-in_err-ids : goal.returns-in_err-ids
returns-in_err-ids g c =
    let p = err_from_is_err_and c.from_residual.result c.from_residual.ensures.1 in
    rw (p.1, p.2) (step_fails (λ ids one. with_selected (g.V.FeatureView.features c.args.view.now) ids (expanded c.args.schema.now c.args.stored.now one)) _ _ _ _ _ _ _ c.loop-one-test.true c.one-item.is c.in_err-ids.ensures c.loop-one.invariant)

pub returns : goal.returns
returns g c =
    sym c.loop-one.invariant ∙ step_ends (λ ids one. with_selected (g.V.FeatureView.features c.args.view.now) ids (expanded c.args.schema.now c.args.stored.now one)) _ _ _ c.loop-one-test.false
