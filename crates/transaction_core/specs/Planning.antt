-- How a plan grows, one action after the other.
use Rattle.std.specs.Prelude.{◌≡◌, ℕ, List, [], ◌∷◌, ◌++◌, map, if◌then◌else◌, Option, Some, None, Result, Ok, Err, ⊤}
use Rattle.wfs_ends.specs.Read.{◌>>=◌}
use Rattle.feature_values.specs.declared.feature.Feature.{Feature}
use Rattle.feature_values.specs.declared.feature.Rid.{Rid}
use Rattle.fes_filter.specs.View.{feature_at}
use Rattle.feature_overlay.specs.Laid.{laid}
use Rattle.wfs_model.specs.declared.action.Action.{Action}
use Rattle.wfs_model.specs.declared.change.Part.{Part}
use Rattle.wfs_model.specs.declared.change.Part.TheVariants.{Put, Remove}
use Rattle.wfs_model.specs.declared.reply.Refusal.{Refusal}
use Rattle.wfs_model.specs.declared.action.Action.TheVariants.{Insert, Update, Replace, Delete}
use Rattle.wfs_model.specs.Acts.{numbered, instead, part_of, inserted, selected_by, touched_by, are_too_many, changed}
use Rattle.wfs_model.specs.Refusals.{not_one}
use Rattle.wfs_model.specs.Plans.{Planning, permitted}
use Rattle.transaction_core.specs.declared.guard.Guard.{Guard}
use Rattle.transaction_core.specs.declared.fault.PlanFault.{PlanFault}
use Rattle.transaction_core.specs.declared.fault.PlanFault.TheVariants.{Refused, OutOfMemory}
use Rattle.transaction_core.specs.declared.tally.Tally.{Tally}

-- ---- in the middle

-- the features that stand then, and what was tallied so far
abbrev pub planning_of : List Feature → Tally → Planning
planning_of features tally = record {
  at = record {
    features = features;
    counters = tally.counters.items;
    inserted = tally.inserted.items;
    updated = tally.updated.items;
    replaced = tally.replaced.items;
    deleted = tally.deleted;
  };
  parts = tally.parts.items;
  touched = tally.touched.items;
}

-- actions came to this, or are refused as is said, or memory ran out
abbrev pub ComesTo : Result (Unit {0}) PlanFault → Result Planning Refusal → Planning → Type 0
ComesTo (Ok done) said plan = said ≡ Ok plan
ComesTo (Err (Refused refusal)) said plan = said ≡ Err refusal
ComesTo (Err OutOfMemory) said plan = ⊤

-- ---- a feature that comes in

unfoldable pub came : Option (List ℕ) → Planning → Feature → Planning
came handle plan f = record {
  at = inserted handle plan.at f;
  parts = plan.parts ++ Put (numbered plan.at.counters f) ∷ [];
  touched = plan.touched;
}

-- ---- features that are selected, one after the other

-- the features that stand then, and the changes so far
pub record Turning : Type 0 where
  pub features : List Feature
  pub parts : List Part

abbrev pub part_at : Rid → Option Feature → Part
part_at id None = Remove id
part_at id (Some f) = Put f

abbrev pub turned_at : Action → Turning → Option Feature → Turning
turned_at action t None = t
turned_at action t (Some f) = record {
  features = laid t.features f.id (instead action f);
  parts = t.parts ++ part_at f.id (instead action f) ∷ [];
}

-- an action does its work on the feature with this identifier
unfoldable pub turned : Action → Turning → Rid → Turning
turned action t id = turned_at action t (feature_at id t.features)

-- ---- an action that changes features

-- what it adds to a plan
unfoldable pub worked : Action → Planning → Planning
worked action plan = record {
  at = changed action plan.at;
  parts = plan.parts ++ map (λ f. part_of f (instead action f)) (selected_by action plan.at);
  touched = plan.touched ++ touched_by action plan.at;
}

-- ---- who may touch what

-- the features that a transaction may touch
abbrev pub may_of : Guard → List Rid → Result (Unit {0}) Refusal
may_of guard touched = permitted guard.schema.now guard.locks.now.locks guard.moment guard.number touched

-- what an action that changes features adds to a plan, or why it is refused
unfoldable pub worked_or_not : (List Rid → Result (Unit {0}) Refusal) → Planning → Action → Result Planning Refusal
worked_or_not may plan action =
    if are_too_many action (touched_by action plan.at) then Err not_one else (may (touched_by action plan.at) >>= λ _. Ok (worked action plan))

-- ---- types

-- an action selects features of this type; an Insert selects none
abbrev pub IsAimed : Action → ℕ → Type 0
IsAimed (Insert handle features) kind = ⊥
IsAimed (Update handle of_type sets filter) kind = kind ≡ of_type
IsAimed (Replace handle feature filter) kind = kind ≡ feature.id.kind
IsAimed (Delete of_type filter) kind = kind ≡ of_type
