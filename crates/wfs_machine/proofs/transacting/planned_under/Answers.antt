use Rattle.std.proofs.Common.{ap, ◌∙◌, subst}
use Rattle.wfs_model.specs.State.{State}
use Rattle.transaction_core.specs.Plan.{Answers, transaction}
use Rattle.wfs_machine.proofs.Telling.{table_is}
use Rattle.wfs_machine.proofs.transacting.planned_under.Goals as goal

pub returns : goal.returns
returns g c =
    let machine = c.machine.inside in
    let same = table_is c.args.machine.now.state machine.counters machine.locks (ap (λ m. m.state.counters) c.machine.view_is) (c.machine.invariant.opening ∙ ap (λ m. m.state.opening) c.machine.view_is) (ap (λ m. m.state.locks) c.machine.view_is) (c.machine.invariant.given ∙ ap (λ m. m.state.given) c.machine.view_is) in
    subst (λ (state : State). Answers c.plan.result (transaction c.args.machine.now.schema state c.args.moment c.args.request.now)) same
    (rw (ap (λ m. m.schema) c.machine.view_is) at c.plan.ensures c.args.machine.now.state)
