-- Transactions are planned as their steps are taken.
use Rattle.std.proofs.Common.{◌≡◌, ℕ, ◌+◌, List, length, All, Option, Some, None, Result, Ok, Err, refl, sym, ap, ◌∙◌, subst}
use Rattle.std.specs.Prelude.{◌==◌, Bool, true, false, if◌then◌else◌}
use Rattle.wfs_ends.specs.Read.{◌>>=◌}
use Rattle.feature_values.specs.declared.feature.Rid.{Rid}
use Rattle.feature_values.specs.declared.schema.Schema.{Schema}
use Rattle.lock_table.specs.declared.id.LockId.{LockId}
use Rattle.lock_table.specs.declared.words.Release.{Release}
use Rattle.lock_table.specs.Lock.{Lock}
use Rattle.wfs_model.specs.declared.action.Action.{Action}
use Rattle.wfs_model.specs.declared.reply.Refusal.{Refusal}
use Rattle.wfs_model.specs.declared.change.Change.{Change}
use Rattle.wfs_model.specs.declared.change.Change.TheVariants.{Rows}
use Rattle.wfs_model.specs.declared.change.Part.{Part}
use Rattle.wfs_model.specs.declared.stored.StoredQuery.{StoredQuery}
use Rattle.wfs_model.specs.declared.reply.Reply.{Reply}
use Rattle.wfs_model.specs.declared.request.Request.{Request}
use Rattle.wfs_model.specs.declared.request.Request.TheVariants.{Transact}
use Rattle.wfs_model.specs.Locking.{named, named_if}
use Rattle.wfs_model.specs.Kept.{IsKept}
use Rattle.wfs_model.specs.OfSchema.{IsActionOf, IsOfSchema}
use Rattle.wfs_model.specs.Plans.{Planning, permitted}
use Rattle.wfs_model.specs.Played.{change_of, rows_if}
use Rattle.wfs_model.specs.State.{State, durable}
use Rattle.wfs_model.specs.Step.{plan_with, plan_of, carried_out, transacted, unlocked, step}
use Rattle.wfs_model.proofs.Sound.{bind_ok}
use Rattle.wfs_model.proofs.Stepping.{sound_kept}
use Rattle.transaction_core.specs.declared.fault.PlanFault.{PlanFault}
use Rattle.transaction_core.specs.declared.fault.PlanFault.TheVariants.{Refused, OutOfMemory}
use Rattle.transaction_core.specs.declared.planned.Planned.{Planned}
use Rattle.transaction_core.specs.Plan.{Answers, planned_by, if_planned, transaction}
use Rattle.request_plans.specs.declared.plan.Plan.{Plan}
use Rattle.request_plans.specs.Carried.{locks_after, given_after, IsDoable}
use Rattle.request_plans.specs.Coming.{Comes, ComesTo}
use Rattle.request_plans.specs.Plan.{CanPlay, inserted_in, deleted_in}
use Rattle.request_plans.specs.Transacted.{kept_of, release_of, carried_by}
use Rattle.request_plans.proofs.Counts.{tally_is}
use Rattle.request_plans.proofs.Leaving.{comes_done, comes_refused}
use Rattle.request_plans.proofs.Named.{id_is_live}

-- the plan of a transaction that is not refused
record HasPlan (schema : Schema) (state : State) (moment : ℕ) (lock : Option LockId) (actions : List Action) (planned : Planned) : Type 0 where
  plan : Planning
  is : plan_of schema state moment lock actions ≡ Ok plan
  told : planned_by plan ≡ planned

plan_behind : (schema : Schema) (state : State) (moment : ℕ) (lock : Option LockId) (release : Release) (actions : List Action) (planned : Planned) → transaction schema state moment (Transact lock release actions) ≡ Ok planned → HasPlan schema state moment lock actions planned
unfolding transaction
plan_behind schema state moment lock release actions planned e =
    let one = bind_ok (plan_of schema state moment lock actions) _ planned e in
    record { plan = one.0; is = one.1; told = (let said = one.2 in cc) }

-- ---- the lock that is named

released_locks : (lock : Option LockId) (release : Release) (touched : List Rid) (given moment : ℕ) (locks : List Lock) → locks_after (release_of lock release touched) given moment locks ≡ unlocked locks moment lock touched release
unfolding locks_after
released_locks None release touched given moment locks = refl
released_locks (Some id) release touched given moment locks = refl

released_given : (lock : Option LockId) (release : Release) (touched : List Rid) (given : ℕ) → given_after (release_of lock release touched) given ≡ given
released_given None release touched given = refl
released_given (Some id) release touched given = refl

released_doable : (schema : Schema) (state : State) (moment : ℕ) (lock : Option LockId) (release : Release) (actions : List Action) (touched : List Rid) (plan : Planning) → plan_of schema state moment lock actions ≡ Ok plan → IsDoable (release_of lock release touched) state.given moment state.locks
unfolding plan_of
released_doable schema state moment None release actions touched plan e = tt
released_doable schema state moment (Some id) release actions touched plan e =
    let one = bind_ok (named_if state moment (Some id)) _ plan e in
    let two = bind_ok (named state moment id) _ one.0 one.1 in
    id_is_live state moment id two.0 two.1

-- ---- transactions

rows_play : (b : Bool) (stored : List StoredQuery) (parts : List Part) → CanPlay stored (if b then None else Some (Rows parts))
rows_play true stored parts = tt
rows_play false stored parts = tt

tally : (schema : Schema) (state : State) (moment : ℕ) (lock : Option LockId) (actions : List Action) (plan : Planning) → IsKept schema (durable state) → All (IsActionOf schema) actions → plan_of schema state moment lock actions ≡ Ok plan
    → length plan.at.features + plan.at.deleted ≡ length state.features + length plan.at.inserted
unfolding plan_of plan_with
tally schema state moment lock actions plan kept fits e =
    let one = bind_ok (named_if state moment lock) _ plan e in
    tally_is schema (permitted schema state.locks moment one.0) state.features state.counters actions plan kept.counters (sound_kept schema (durable state) kept).counted fits one.2

comes : (schema : Schema) (state : State) (moment : ℕ) (lock : Option LockId) (release : Release) (actions : List Action) (planned : Planned)
    → IsKept schema (durable state) → All (IsActionOf schema) actions → transaction schema state moment (Transact lock release actions) ≡ Ok planned → Comes schema state moment (Transact lock release actions) (carried_by lock release planned)
unfolding step change_of carried_out
comes schema state moment lock release actions planned kept fits e =
    let found = plan_behind schema state moment lock release actions planned e in
    let plan = found.plan in
    let touched : planned.touched ≡ plan.touched = ap (λ (p : Planned). p.touched) (sym found.told) in
    comes_done schema state moment (Transact lock release actions) (plan_of schema state moment lock actions >>= λ p. Ok (carried_out state moment lock release p)) (transacted plan.at) (carried_out state moment lock release plan).1
    (carried_by lock release planned) refl
    (ap rows_if found.is ∙ ap (λ (p : Planned). kept_of p.change) found.told)
    (subst (λ (c : Change). CanPlay state.stored (kept_of c)) (ap (λ (p : Planned). p.change) found.told) (rows_play (length plan.parts == 0) state.stored plan.parts))
    (ap (λ r. r >>= λ p. Ok (carried_out state moment lock release p)) found.is)
    (ap (λ (p : Planned). p.reply) (sym found.told))
    (released_locks lock release planned.touched state.given moment state.locks ∙ ap (λ (t : List Rid). unlocked state.locks moment lock t release) touched)
    (released_given lock release planned.touched state.given)
    (released_doable schema state moment lock release actions planned.touched plan found.is)
    (subst (λ (r : Reply). length plan.at.features + deleted_in r ≡ length state.features + inserted_in r) (ap (λ (p : Planned). p.reply) found.told) (tally schema state moment lock actions plan kept fits found.is))

refused_plan_of : (r : Result Planning Refusal) (refusal : Refusal) → if_planned r ≡ Err refusal → r ≡ Err refusal
refused_plan_of (Ok plan) refusal e = absurd cc
refused_plan_of (Err other) refusal e = let same : other ≡ refusal = cc in ap (λ (x : Refusal). Err x) same

refused : (schema : Schema) (state : State) (moment : ℕ) (lock : Option LockId) (release : Release) (actions : List Action) (fault : PlanFault)
    → (let s : Result Planned PlanFault = Err fault in Answers s (transaction schema state moment (Transact lock release actions))) → (let s : Result Plan PlanFault = Err fault in ComesTo schema state moment (Transact lock release actions) s)
unfolding step change_of transaction
refused schema state moment lock release actions OutOfMemory is = tt
refused schema state moment lock release actions (Refused refusal) is =
    let none : plan_of schema state moment lock actions ≡ Err refusal = refused_plan_of (plan_of schema state moment lock actions) refusal is in
    comes_refused schema state moment (Transact lock release actions) (plan_of schema state moment lock actions >>= λ p. Ok (carried_out state moment lock release p)) refusal refl
    (ap rows_if none) (ap (λ r. r >>= λ p. Ok (carried_out state moment lock release p)) none)

-- ---- a request that is a transaction

pub transaction_comes : (schema : Schema) (state : State) (moment : ℕ) (request : Request) (lock : Option LockId) (release : Release) (actions : List Action) (planned : Planned) → request ≡ Transact lock release actions
    → IsKept schema (durable state) → IsOfSchema schema request → transaction schema state moment request ≡ Ok planned → Comes schema state moment request (carried_by lock release planned)
transaction_comes schema state moment request lock release actions planned is kept fits e =
    subst (λ (r : Request). Comes schema state moment r (carried_by lock release planned)) (sym is)
    (comes schema state moment lock release actions planned kept (subst (λ (r : Request). IsOfSchema schema r) is fits).actions (subst (λ (r : Request). transaction schema state moment r ≡ Ok planned) is e))

pub transaction_refused : (schema : Schema) (state : State) (moment : ℕ) (request : Request) (lock : Option LockId) (release : Release) (actions : List Action) (fault : PlanFault) → request ≡ Transact lock release actions
    → (let s : Result Planned PlanFault = Err fault in Answers s (transaction schema state moment request)) → (let s : Result Plan PlanFault = Err fault in ComesTo schema state moment request s)
transaction_refused schema state moment request lock release actions fault is said =
    subst (λ (r : Request). let s : Result Plan PlanFault = Err fault in ComesTo schema state moment r s) (sym is)
    (refused schema state moment lock release actions fault (subst (λ (r : Request). let s : Result Planned PlanFault = Err fault in Answers s (transaction schema state moment r)) is said))
