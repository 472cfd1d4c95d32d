use Rattle.std.proofs.lemmas.Result.{IfOk-weaker}
use Rattle.request_plans.specs.declared.plan.Plan.{Plan}
use Rattle.request_plans.specs.Carried.{IsDoable}
use Rattle.service_rows.proofs.plans.counted.Goals as goal

pub returns : goal.returns
returns g c =
    let basis = c.args.basis.now in
    IfOk-weaker c.plan_request.result _ (λ (plan : Plan). IsDoable plan.lock basis.locks.now.given basis.moment basis.locks.now.locks) (λ plan is. (is 0).lock) c.plan_request.ensures
