use Rattle.std.proofs.Common.{◌≡◌, ℕ, List, Result, sym, ap, ◌∙◌, subst}
use Rattle.feature_values.specs.declared.schema.Schema.{Schema}
use Rattle.transaction_core.specs.declared.fault.PlanFault.{PlanFault}
use Rattle.wfs_model.specs.declared.asked.Asked.{Asked}
use Rattle.wfs_model.specs.declared.request.Request.{Request}
use Rattle.wfs_model.specs.declared.request.Request.TheVariants.{GetLocked, Lock}
use Rattle.wfs_model.specs.State.{State}
use Rattle.request_plans.specs.declared.plan.Plan.{Plan}
use Rattle.request_plans.specs.Coming.{ComesTo}
use Rattle.request_plans.specs.Plan.{state_in}
use Rattle.request_plans.proofs.planning.planned.Goals as goal

-- what a request comes to, one that is equal comes to
same_comes : (schema : Schema) (state : State) (moment : ℕ) (request other : Request) (result : Result Plan PlanFault) → request ≡ other → ComesTo schema state moment other result → ComesTo schema state moment request result
same_comes schema state moment request other result is comes = subst (λ (r : Request). ComesTo schema state moment r result) (sym is) comes

pub returns-in-GetLocked : goal.returns-in-GetLocked
returns-in-GetLocked g c = λ last.
    let basis = c.args.basis.now in
    same_comes basis.schema.now (state_in (g.V.FeatureView.features c.args.view.now) basis last) basis.moment c.args.request.now _ c.plan_page.result
    (c.in-GetLocked.is ∙ ap (λ (asked : List Asked). GetLocked c.in-GetLocked.present asked c.in-GetLocked.take c.in-GetLocked.period) (sym c.items.ensures)) (c.plan_page.ensures last)

pub returns-in-Lock : goal.returns-in-Lock
returns-in-Lock g c = λ last.
    let basis = c.args.basis.now in
    same_comes basis.schema.now (state_in (g.V.FeatureView.features c.args.view.now) basis last) basis.moment c.args.request.now _ c.plan_lock.result
    (c.in-Lock.is ∙ ap (λ (asked : List Asked). Lock asked c.in-Lock.take c.in-Lock.period) (sym c.items-in-Lock.ensures)) (c.plan_lock.ensures last)

pub returns-in-Renew : goal.returns-in-Renew
returns-in-Renew g c = λ last.
    let basis = c.args.basis.now in
    let features = g.V.FeatureView.features c.args.view.now in
    same_comes basis.schema.now (state_in features basis last) basis.moment c.args.request.now _ c.plan_renewal.result c.in-Renew.is (c.plan_renewal.ensures features last)

pub returns-in-CreateStored : goal.returns-in-CreateStored
returns-in-CreateStored g c = λ last.
    let basis = c.args.basis.now in
    let features = g.V.FeatureView.features c.args.view.now in
    same_comes basis.schema.now (state_in features basis last) basis.moment c.args.request.now _ c.plan_creation.result c.in-CreateStored.is (c.plan_creation.ensures features last)

pub returns-in-DropStored : goal.returns-in-DropStored
returns-in-DropStored g c = λ last.
    let basis = c.args.basis.now in
    let features = g.V.FeatureView.features c.args.view.now in
    same_comes basis.schema.now (state_in features basis last) basis.moment c.args.request.now _ c.plan_drop.result c.in-DropStored.is (c.plan_drop.ensures features last)
