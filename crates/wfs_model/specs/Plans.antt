-- What the actions of a transaction come to, each on what the earlier ones left (OGC 09-025r2, section 15.2), and which features they may
-- touch. That a feature without a holder may be changed with or without a lock is this project's own.
use Rattle.std.specs.Prelude.{ℕ, Bool, true, false, not, ◌==◌, List, [], ◌++◌, Option, Some, None, Result, Ok, Err}
use Rattle.std.specs.List.{find}
use Rattle.wfs_ends.specs.Read.{◌>>=◌, each}
use Rattle.feature_values.specs.declared.feature.Feature.{Feature}
use Rattle.feature_values.specs.declared.feature.Rid.{Rid}
use Rattle.feature_values.specs.declared.schema.Schema.{Schema}
use Rattle.lock_table.specs.Lock.{Lock}
use Rattle.lock_table.specs.Held.{holder}
use Rattle.wfs_model.specs.declared.action.Action.{Action}
use Rattle.wfs_model.specs.declared.change.Part.{Part}
use Rattle.wfs_model.specs.declared.reply.Refusal.{Refusal}
use Rattle.wfs_model.specs.Acts.{Acting, begun, acted, touched_by, parts_of}
use Rattle.wfs_model.specs.Refusals.{is_locked, is_locked_by_another}

-- ---- permission

-- a holder that is not the lock of this number
abbrev pub is_another : Option ℕ → Option ℕ → Bool
is_another number None = false
is_another None (Some holder) = true
is_another (Some number) (Some holder) = not (number == holder)

-- another lock than that of this number holds the feature at a moment
abbrev pub is_withheld : List Lock → ℕ → Option ℕ → Rid → Bool
is_withheld locks moment number feature = is_another number (holder locks moment feature)

-- how a transaction is refused because of a feature that another lock holds, by whether it names a lock
abbrev pub withheld : Schema → Option ℕ → Option Rid → Result (Unit {0}) Refusal
withheld schema number None = Ok tt
withheld schema None (Some feature) = Err is_locked
withheld schema (Some number) (Some feature) = Err (is_locked_by_another schema feature)

-- a transaction with the lock of this number, or without one, may touch these features, or is refused because of the first that it may not
unfoldable pub permitted : Schema → List Lock → ℕ → Option ℕ → List Rid → Result (Unit {0}) Refusal
permitted schema locks moment number touched = withheld schema number (find (is_withheld locks moment number) touched)

-- ---- plans

-- what the actions so far have come to
pub record Planning : Type 0 where
  pub at : Acting
  -- the changes of single features, in order
  pub parts : List Part
  -- the features that were touched, in order, as often as they were
  pub touched : List Rid

-- One more action. It is refused where it is of too many features, or else where it may not touch one that it selects.
unfoldable pub planned : (List Rid → Result (Unit {0}) Refusal) → Planning → Action → Result Planning Refusal
planned may plan action =
    acted plan.at action >>= λ at. may (touched_by action plan.at) >>= λ _.
    Ok (record { at = at; parts = plan.parts ++ parts_of action plan.at; touched = plan.touched ++ touched_by action plan.at })

-- what actions come to on features in default order, each on what the earlier ones left, or why the first is refused that is
unfoldable pub planned_all : (List Rid → Result (Unit {0}) Refusal) → List Feature → List ℕ → List Action → Result Planning Refusal
planned_all may features counters actions = each (planned may) (record { at = begun features counters; parts = []; touched = [] }) actions
