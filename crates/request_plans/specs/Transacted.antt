-- What a transaction comes to, from what is planned of its actions.
use Rattle.std.specs.Prelude.{Bool, false, ◌==◌, if◌then◌else◌, List, length, Option, Some, None}
use Rattle.feature_values.specs.declared.feature.Rid.{Rid}
use Rattle.lock_table.specs.declared.id.LockId.{LockId}
use Rattle.lock_table.specs.declared.words.Release.{Release as HowMuch}
use Rattle.wfs_model.specs.declared.change.Change.{Change}
use Rattle.wfs_model.specs.declared.change.Change.TheVariants.{Rows}
use Rattle.transaction_core.specs.declared.planned.Planned.{Planned}
use Rattle.request_plans.specs.declared.plan.LockWork.{LockWork}
use Rattle.request_plans.specs.declared.plan.LockWork.TheVariants.{Nothing, Release}
use Rattle.request_plans.specs.declared.plan.Plan.{Plan}

-- a change of no parts
abbrev pub is_empty : Change → Bool
is_empty (Rows parts) = length parts == 0
is_empty change = false

-- the change of a transaction, where it has parts
abbrev pub kept_of : Change → Option Change
kept_of change = if is_empty change then None else Some change

-- what is released of the lock, where one is named
abbrev pub release_of : Option LockId → HowMuch → List Rid → LockWork
release_of None how touched = Nothing
release_of (Some id) how touched = Release id.number touched how

-- the plan of a transaction that is not refused
abbrev pub carried_by : Option LockId → HowMuch → Planned → Plan
carried_by lock how planned = record { reply = planned.reply; change = kept_of planned.change; lock = release_of lock how planned.touched }
