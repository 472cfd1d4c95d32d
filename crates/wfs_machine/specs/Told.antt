-- How parts of a step answer, and what they find.
use Rattle.std.specs.Prelude.{◌≡◌, ℕ, ◌≤◌, List, All, None, Result, Ok, Err, IfOk, OnErr, ⊤}
use Rattle.feature_values.specs.declared.feature.Rid.{Rid}
use Rattle.lock_table.specs.Lock.{Lock}
use Rattle.lock_table.specs.Held.{holder}
use Rattle.wfs_model.specs.declared.reply.Refusal.{Refusal}
use Rattle.wfs_model.specs.Locking.{Division}
use Rattle.wfs_model.specs.declared.reply.Reply.{Reply}
use Rattle.wfs_model.specs.State.{State, Machine, last_moment}
use Rattle.wfs_model.specs.Step.{Done, settled}
use Rattle.transaction_core.specs.declared.fault.PlanFault.{PlanFault}
use Rattle.transaction_core.specs.declared.fault.PlanFault.TheVariants.{Refused, OutOfMemory}
use Rattle.wfs_machine.specs.declared.dividing.Divided.{Divided}

abbrev pub division_of : Divided → Division
division_of divided = record { taken = divided.taken; missed = divided.missed }

-- a call divides as is said, or answers the refusal that is said, or that memory ran out
abbrev pub Divides : Result Divided PlanFault → Result Division Refusal → Type 0
Divides (Ok divided) said = said ≡ Ok (division_of divided)
Divides (Err (Refused refusal)) said = said ≡ Err refusal
Divides (Err OutOfMemory) said = ⊤

-- a fault is the refusal that is said, or that memory ran out
abbrev pub IsSaid : {A : Type 0} → PlanFault → Result A Refusal → Type 0
IsSaid (Refused refusal) said = said ≡ Err refusal
IsSaid OutOfMemory said = ⊤

-- A call settles what a request comes to at a moment: it gives the reply and leaves the state, or leaves the machine as it was.
pub record Settles {E : Type 0} (before : Machine) (moment : ℕ) (said : Result Done Refusal) (result : Result Reply E) (now : Machine) : Type 0 where
  pub ok : IfOk result (λ reply. (reply, now.state) ≡ settled before.state moment said)
  pub err : OnErr result (now ≡ before)
  pub schema : now.schema ≡ before.schema

-- no lock holds one of these features
abbrev pub AreFree : List Lock → ℕ → List Rid → Type 0
AreFree locks moment ids = All (λ id. holder locks moment id ≡ None) ids

-- a moment at which a step may be taken
abbrev pub IsNext : State → ℕ → Type 0
IsNext state moment = (state.last ≤ moment) × (moment ≤ last_moment)
