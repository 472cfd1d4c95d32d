-- What a transaction comes to on the features of a view, with counters and a table of locks, and how a call answers it.
use Rattle.std.specs.Prelude.{◌≡◌, ℕ, List, Option, None, Result, Ok, Err, ⊤}
use Rattle.wfs_ends.specs.Read.{◌>>=◌}
use Rattle.feature_values.specs.declared.feature.Feature.{Feature}
use Rattle.feature_values.specs.declared.schema.Schema.{Schema}
use Rattle.lock_table.specs.declared.id.LockId.{LockId}
use Rattle.lock_table.specs.Lock.{Locks}
use Rattle.wfs_model.specs.declared.change.Change.TheVariants.{Rows}
use Rattle.wfs_model.specs.declared.reply.Refusal.{Refusal}
use Rattle.wfs_model.specs.declared.request.Request.{Request}
use Rattle.wfs_model.specs.declared.request.Request.TheVariants.{Transact}
use Rattle.wfs_model.specs.OfSchema.{actions_in}
use Rattle.wfs_model.specs.Plans.{Planning}
use Rattle.wfs_model.specs.State.{State}
use Rattle.wfs_model.specs.Step.{plan_of, transacted}
use Rattle.transaction_core.specs.declared.fault.PlanFault.{PlanFault}
use Rattle.transaction_core.specs.declared.fault.PlanFault.TheVariants.{Refused, OutOfMemory}
use Rattle.transaction_core.specs.declared.planned.Planned.{Planned}

-- ---- transactions

abbrev pub IsTransaction : Request → Type 0
IsTransaction (Transact lock release actions) = ⊤
IsTransaction request = ⊥

-- the lock that a transaction names
abbrev pub lock_in : Request → Option LockId
lock_in (Transact lock release actions) = lock
lock_in request = None

-- ---- what a transaction comes to

-- a state with these features, these counters and the locks of a table, whatever else is in it
abbrev pub with_these : State → List Feature → List ℕ → Locks → State
with_these state features counters table = record state {
  features = features;
  counters = counters;
  opening = table.opening;
  locks = table.locks;
  given = table.given;
}

-- all parts, the reply, and the features that were touched
abbrev pub planned_by : Planning → Planned
planned_by plan = record { change = Rows plan.parts; reply = transacted plan.at; touched = plan.touched }

abbrev pub if_planned : Result Planning Refusal → Result Planned Refusal
if_planned said = said >>= λ plan. Ok (planned_by plan)

-- what a transaction comes to in a state at a moment, or why it is refused
unfoldable pub transaction : Schema → State → ℕ → Request → Result Planned Refusal
transaction schema state moment request = if_planned (plan_of schema state moment (lock_in request) (actions_in request))

-- ---- what calls answer

-- a call answers what is said, or the refusal that is said, or that memory ran out
abbrev pub Answers : {A : Type 0} → Result A PlanFault → Result A Refusal → Type 0
Answers (Ok a) said = said ≡ Ok a
Answers (Err (Refused refusal)) said = said ≡ Err refusal
Answers (Err OutOfMemory) said = ⊤

-- a fault is this refusal, or that memory ran out
abbrev pub IsRefusal : PlanFault → Refusal → Type 0
IsRefusal (Refused refusal) said = refusal ≡ said
IsRefusal OutOfMemory said = ⊤
