-- Which of the features that were selected a lock takes, as the code holds them.
use Rattle.std.specs.Prelude.{◌≡◌, ◌==◌, ℕ, ⊤, if◌then◌else◌, List, length, Result, Ok, Err}
use Rattle.feature_values.specs.declared.feature.Rid.{Rid}
use Rattle.wfs_model.specs.declared.reply.Refusal.{Refusal}
use Rattle.wfs_model.specs.Locking.{Division}
use Rattle.transaction_core.specs.declared.fault.PlanFault.{PlanFault}
use Rattle.transaction_core.specs.declared.fault.PlanFault.TheVariants.{Refused, OutOfMemory}
use Rattle.request_plans.specs.declared.dividing.Divided.{Divided}
use Rattle.request_plans.specs.declared.plan.LockWork.{LockWork}
use Rattle.request_plans.specs.declared.plan.LockWork.TheVariants.{Nothing, Grant}

abbrev pub division_of : Divided → Division
division_of divided = record { taken = divided.taken; missed = divided.missed }

-- a call divides as is said, or answers the refusal that is said, or that memory ran out
abbrev pub Divides : Result Divided PlanFault → Result Division Refusal → Type 0
Divides (Ok divided) said = said ≡ Ok (division_of divided)
Divides (Err (Refused refusal)) said = said ≡ Err refusal
Divides (Err OutOfMemory) said = ⊤

-- the lock on these features; where they are none, there is no lock
abbrev pub work_on : List Rid → ℕ → LockWork
work_on taken period = if length taken == 0 then Nothing else Grant taken period
