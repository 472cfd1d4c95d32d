-- What is refused, and what goes on.
use Rattle.std.proofs.Common.{◌≡◌, ℕ, List, Option, Some, Result, Ok, Err, ap, sym, ◌∙◌}
use Rattle.wfs_ends.specs.Read.{◌>>=◌}
use Rattle.feature_values.specs.declared.schema.Schema.{Schema}
use Rattle.lock_table.specs.declared.id.LockId.{LockId}
use Rattle.lock_table.specs.declared.words.LockStatus.{LockStatus}
use Rattle.lock_table.specs.declared.words.Release.{Release}
use Rattle.lock_table.specs.Held.{status}
use Rattle.wfs_model.specs.declared.action.Action.{Action}
use Rattle.wfs_model.specs.declared.reply.Refusal.{Refusal}
use Rattle.wfs_model.specs.declared.request.Request.TheVariants.{Transact}
use Rattle.wfs_model.specs.Locking.{number_by, named, named_if}
use Rattle.wfs_model.specs.Plans.{permitted, planned_all}
use Rattle.wfs_model.specs.State.{State}
use Rattle.wfs_model.specs.Step.{plan_of, plan_with}
use Rattle.transaction_core.specs.declared.fault.PlanFault.{PlanFault}
use Rattle.transaction_core.specs.declared.fault.PlanFault.TheVariants.{Refused, OutOfMemory}
use Rattle.transaction_core.specs.declared.planned.Planned.{Planned}
use Rattle.transaction_core.specs.Plan.{Answers, IsRefusal, if_planned, transaction}

-- a fault that is the refusal that is said answers it
pub as_refused : {A : Type 0} (fault : PlanFault) (refusal : Refusal) (said : Result A Refusal) → IsRefusal fault refusal → said ≡ Err refusal → Answers (Err fault) said
as_refused (Refused other) refusal said is refuses = refuses ∙ ap (λ r. Err r) (sym is)
as_refused OutOfMemory refusal said is refuses = tt

-- what refuses a step refuses all that goes on from it
pub stays_refused : {A B : Type 0} (fault : PlanFault) (said : Result A Refusal) (more : A → Result B Refusal) → (let r : Result A PlanFault = Err fault in Answers r said) → (let r : Result B PlanFault = Err fault in Answers r (said >>= more))
stays_refused (Refused refusal) said more is = ap (λ r. r >>= more) is
stays_refused OutOfMemory said more is = tt

-- ---- the lock that is named

-- an identifier of this status
pub names : (state : State) (moment : ℕ) (id : LockId) (found : LockStatus) → found ≡ status state.opening state.given state.locks moment id → named_if state moment (Some id) ≡ (number_by id found >>= λ number. Ok (Some number))
unfolding named
names state moment id found is = ap (λ s. number_by id s >>= λ number. Ok (Some number)) (sym is)

-- ---- the transaction

pub not_named : (fault : PlanFault) (schema : Schema) (state : State) (moment : ℕ) (lock : Option LockId) (release : Release) (actions : List Action) → (let r : Result (Option ℕ) PlanFault = Err fault in Answers r (named_if state moment lock)) → (let r : Result Planned PlanFault = Err fault in Answers r (transaction schema state moment (Transact lock release actions)))
unfolding transaction plan_of
not_named fault schema state moment lock release actions is =
    stays_refused fault (named_if state moment lock >>= λ number. plan_with schema state moment actions number) _ (stays_refused fault (named_if state moment lock) (λ number. plan_with schema state moment actions number) is)

pub is_named : (schema : Schema) (state : State) (moment : ℕ) (lock : Option LockId) (release : Release) (actions : List Action) (number : Option ℕ) → named_if state moment lock ≡ Ok number
    → transaction schema state moment (Transact lock release actions) ≡ if_planned (planned_all (permitted schema state.locks moment number) state.features state.counters actions)
unfolding transaction plan_of plan_with
is_named schema state moment lock release actions number is = ap (λ r. if_planned (r >>= λ n. plan_with schema state moment actions n)) is
