use Rattle.request_plans.specs.Coming.{refused_plan}
use Rattle.request_plans.specs.Plan.{state_in}
use Rattle.request_plans.proofs.Leaving.{is_plan}
use Rattle.request_plans.proofs.planning.plan_request.Goals as goal

pub returns-in-Ok : goal.returns-in-Ok
returns-in-Ok g c = λ last.
    let basis = c.args.basis.now in
    is_plan basis.schema.now (state_in (g.V.FeatureView.features c.args.view.now) basis last) basis.moment c.args.request.now c.in-Ok.plan c.requires.change c.requires.kept (c.in-Ok.ensures last)

pub returns-in-Err-Refused : goal.returns-in-Err-Refused
returns-in-Err-Refused g c = λ last.
    let basis = c.args.basis.now in
    let comes = rw c.in-Err-Refused.field-0-is at c.in-Err-Refused.ensures in
    rw c.refused_plan.ensures
    (is_plan basis.schema.now (state_in (g.V.FeatureView.features c.args.view.now) basis last) basis.moment c.args.request.now (refused_plan c.in-Err-Refused.refusal) c.requires.change c.requires.kept (comes last))
