use Rattle.std.proofs.Common.{sym, ◌∙◌, subst}
use Rattle.wfs_model.specs.State.{Durable}
use Rattle.wfs_model.specs.Kept.{IsKept}
use Rattle.service_state.proofs.Telling.{durable_is}
use Rattle.service_state.proofs.state.plan_under.Goals as goal

pub plan_request-requires-clause-kept : goal.plan_request-requires-clause-kept
plan_request-requires-clause-kept g c =
    let kept : Durable = c.state.inside.features.kept in
    rw c.schema.ensures.value (subst (IsKept c.state.inside.features.schema) (durable_is kept c.counters.result.now c.list.result.now c.state.inside.locks.opening (sym c.counters.ensures.value) (sym (c.list.ensures ∙ c.stored.ensures)) (sym c.state.invariant.opening)) c.schema.ensures.kept)
