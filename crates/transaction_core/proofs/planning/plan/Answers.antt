use Rattle.std.proofs.Common.{All, List, Result, subst, sym, ap, ◌∙◌, length}
use Rattle.feature_values.specs.declared.schema.Schema.{Schema}
use Rattle.wfs_model.specs.declared.action.Action.{Action}
use Rattle.wfs_model.specs.declared.reply.Refusal.{Refusal}
use Rattle.wfs_model.specs.OfSchema.{IsActionOf, actions_in}
use Rattle.wfs_model.specs.Plans.{permitted, planned_all}
use Rattle.transaction_core.specs.declared.planned.Planned.{Planned}
use Rattle.transaction_core.specs.Plan.{Answers, if_planned, with_these}
use Rattle.transaction_core.proofs.Refused.{not_named, is_named}
use Rattle.transaction_core.proofs.planning.plan.Goals as goal

pub returns-in-Err : goal.returns-in-Err
returns-in-Err g c = λ state.
    let features = g.V.FeatureView.features c.args.view.now in
    rw c.in-Transact.is
    (not_named c.in-Err.fault c.args.schema.now (with_these state features c.args.counters.now c.args.locks.now) c.args.moment c.in-Transact.lock c.in-Transact.release c.in-Transact.actions
    (c.in-Err.ensures state features c.args.counters.now))

pub plan_with-requires : goal.plan_with-requires
plan_with-requires g c = record {
  counters = ap length c.items.ensures ∙ c.requires.counters ∙ ap (λ (s : Schema). length s.types) (sym c.requires.schema);
  fitting = subst (λ (s : Schema). All (IsActionOf s) c.items-2.result.now) (sym c.requires.schema)
      (subst (λ (actions : List Action). All (IsActionOf c.args.schema.now) actions) (sym (c.items-2.ensures ∙ sym (ap actions_in c.in-Transact.is))) c.requires.fitting.actions);
}

pub returns : goal.returns
returns g c = λ state.
    let features = g.V.FeatureView.features c.args.view.now in
    let these = with_these state features c.args.counters.now c.args.locks.now in
    let may = permitted c.args.schema.now c.args.locks.now.locks c.args.moment c.in-Ok.number in
    rw c.in-Transact.is
    (subst (λ (said : Result Planned Refusal). Answers c.plan_with.result said)
    (ap (λ counters. if_planned (planned_all may features counters c.items-2.result.now)) c.items.ensures
    ∙ ap (λ actions. if_planned (planned_all may features c.args.counters.now actions)) c.items-2.ensures
    ∙ sym (is_named c.args.schema.now these c.args.moment c.in-Transact.lock c.in-Transact.release c.in-Transact.actions c.in-Ok.number (c.in-Ok.ensures state features c.args.counters.now)))
    c.plan_with.ensures)
