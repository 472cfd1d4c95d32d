use Rattle.std.proofs.Common.{◌≡◌, ℕ, List, length, ◌∙◌, subst, ◌+◌}
use Rattle.lock_table.specs.Held.{AreNumbered}
use Rattle.service_state.specs.Passed.{IsPassedBy, FeaturesPassed, counters_after, made_by}
use Rattle.service_state.specs.Running.{Running}
use Rattle.service_state.proofs.Telling.{first_told, chained}
use Rattle.wfs_model.specs.declared.stored.StoredQuery.{StoredQuery}
use Rattle.wfs_model.specs.Full.{passes, some_passes}
use Rattle.service_state.proofs.state.ServiceState.would_pass.Goals as goal

pub returns-clause-passed : goal.returns-clause-passed
returns-clause-passed c =
    let limits = c.args.limits.now in
    let plan = c.args.plan.now in
    let inside = c.self.inside in
    let kept = inside.features.kept in
    let features = c.features_passed-features.result in
    let ids = c.ids_passed-ids.result in
    let locks = c.in_ok-locks.locks in
    let stored = c.stored_passed-stored.result in
    let numbered : AreNumbered inside.given inside.locks.locks = subst (λ (n : ℕ). AreNumbered n inside.locks.locks) c.self.invariant.given c.self.invariant.numbered in
    subst (λ (r : Running). IsPassedBy limits r c.args.moment plan c.or-3.result) c.self.view_is
    (λ request is. chained c.at_limit.result c.at_limit-2.result c.at_limit-3.result c.at_limit-4.result c.or.result c.or-2.result c.or-3.result features ids locks stored
    c.at_limit.ensures c.at_limit-2.ensures c.or.ensures c.at_limit-3.ensures c.or-2.ensures c.at_limit-4.ensures c.or-3.ensures
    ∙ first_told limits inside.features.schema kept inside.given inside.last c.args.moment inside.locks plan features ids locks stored numbered (record {
      features_told = subst (λ (n : ℕ). FeaturesPassed limits.features n plan.reply features) c.count-count.ensures c.features_passed-features.ensures;
      ids_told = subst (λ (cs : List ℕ). ids ≡ some_passes limits.ids cs (counters_after cs plan.change)) (c.items.ensures ∙ c.counters.ensures.value) c.ids_passed-ids.ensures;
      locks_told = c.in_ok-locks.ensures.passed;
      stored_told = subst (λ (qs : List StoredQuery). stored ≡ passes limits.stored (length qs) (length qs + made_by plan.change)) (c.list.ensures ∙ c.stored.ensures) c.stored_passed-stored.ensures;
    }) request is)
