use Rattle.std.proofs.Common.{◌≡◌, ◌≤◌, All, sym, ap, ◌∙◌, subst}
use Rattle.request_plans.specs.Carried.{HasRoom}
use Rattle.service_state.specs.Running.{Running, state_of}
use Rattle.service_state.proofs.Making.{is_prepared}
use Rattle.wfs_model.specs.Kept.{IsKept}
use Rattle.wfs_model.specs.Playable.{most_number}
use Rattle.wfs_model.specs.State.{Durable, State, durable}
use Rattle.service_state.proofs.state.ServiceState.prepare.Goals as goal

pub returns-clause-prepared : goal.returns-clause-prepared
returns-clause-prepared c = λ request is fits.
    let old = c.args.self.now in
    let plan = c.args.plan.now in
    let inside = c.self.inside in
    let judged = c.in_ok-at.ensures in
    let same : inside.features.schema ≡ old.schema = ap (λ (r : Running). r.schema) c.self.view_is ∙ judged.schema in
    let stays : state_of inside.features.kept inside.given inside.last inside.locks ≡ old.state = ap (λ (r : Running). r.state) c.self.view_is ∙ judged.state in
    is_prepared c.args.limits.now old.schema old.state c.args.moment request plan (record {
      planned = is;
      fitting = fits;
      well = subst (λ (s : State). IsKept old.schema (durable s)) stays (rw (← same) c.self.invariant.well);
      numbers = subst (λ (s : State). All (λ n. n ≤ most_number) s.counters) stays c.self.invariant.numbers;
      ids = c.args.limits.now.ids_within;
      none = sym (judged.passed request is) ∙ c.in_default.is;
    }) _ (c.reserve.ensures.schema ∙ same) (ap (λ (kept : Durable). state_of kept inside.given inside.last inside.locks) c.reserve.ensures.kept ∙ stays)
    c.in_ok-reserve.ensures.reserved (subst (λ (r : Running). HasRoom plan.lock r.table) (sym c.self.view_is) (judged.room c.in_default.is))
