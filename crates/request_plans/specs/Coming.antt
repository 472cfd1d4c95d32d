-- How parts of a request are planned.
use Rattle.std.specs.Prelude.{◌≡◌, ℕ, ◌+◌, ⊤, List, length, None, Result, Ok, Err}
use Rattle.feature_values.specs.declared.feature.Feature.{Feature}
use Rattle.feature_values.specs.declared.schema.Schema.{Schema}
use Rattle.wfs_model.specs.declared.reply.Refusal.{Refusal}
use Rattle.wfs_model.specs.declared.reply.Reply.TheVariants.{Refused}
use Rattle.wfs_model.specs.declared.request.Request.{Request}
use Rattle.wfs_model.specs.Played.{change_of}
use Rattle.wfs_model.specs.State.{State}
use Rattle.wfs_model.specs.Step.{step}
use Rattle.transaction_core.specs.declared.fault.PlanFault.{PlanFault}
use Rattle.transaction_core.specs.declared.fault.PlanFault.TheVariants.{Refused as IsRefused, OutOfMemory}
use Rattle.request_plans.specs.declared.basis.Basis.{Basis}
use Rattle.request_plans.specs.declared.plan.LockWork.TheVariants.{Nothing}
use Rattle.request_plans.specs.declared.plan.Plan.{Plan}
use Rattle.request_plans.specs.Carried.{locks_after, given_after, IsDoable}
use Rattle.request_plans.specs.Plan.{state_in, CanPlay, inserted_in, deleted_in}

-- a request that is refused changes nothing
abbrev pub refused_plan : Refusal → Plan
refused_plan refusal = record { reply = Refused refusal; change = None; lock = Nothing }

-- A plan has the reply of the step, the change of the request, and work that leaves the step's locks and can be done; and the reply tells how
-- many features more and less the step leaves.
pub record Comes (schema : Schema) (state : State) (moment : ℕ) (request : Request) (plan : Plan) : Type 0 where
  pub reply : plan.reply ≡ (step schema state moment request).0
  pub change : plan.change ≡ change_of schema state moment request
  pub playable : CanPlay state.stored plan.change
  pub locks : locks_after plan.lock state.given moment state.locks ≡ (step schema state moment request).1.locks
  pub given : given_after plan.lock state.given ≡ (step schema state moment request).1.given
  pub lock : IsDoable plan.lock state.given moment state.locks
  pub features : length (step schema state moment request).1.features + deleted_in plan.reply ≡ length state.features + inserted_in plan.reply

-- a call answers what a request comes to, or its refusal, or that memory ran out
abbrev pub ComesTo : Schema → State → ℕ → Request → Result Plan PlanFault → Type 0
ComesTo schema state moment request (Ok plan) = Comes schema state moment request plan
ComesTo schema state moment request (Err (IsRefused refusal)) = Comes schema state moment request (refused_plan refusal)
ComesTo schema state moment request (Err OutOfMemory) = ⊤

-- the same in each state with these features and what a request is judged by
abbrev pub Plans : List Feature → Basis → Request → Result Plan PlanFault → Type 0
Plans features basis request result = (last : ℕ) → ComesTo basis.schema.now (state_in features basis last) basis.moment request result
