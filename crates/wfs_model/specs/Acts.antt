-- What actions of a transaction do to features that stand in default order (OGC 09-025r2, sections 15.2.4 to 15.2.7). That a Replace is of at
-- most one feature, and what stands where none is selected, is this project's own.
use Rattle.std.specs.Prelude.{ℕ, ◌+◌, ◌&&◌, nat_lt, Bool, false, if◌then◌else◌, List, [], ◌∷◌, ◌++◌, length, map, filter, flat_map, get_or, slice_set, Option, Some, None, Result, Ok, Err}
use Rattle.std.specs.List.{fold}
use Rattle.feature_values.specs.declared.value.Value.{Value}
use Rattle.feature_values.specs.declared.feature.Feature.{Feature}
use Rattle.feature_values.specs.declared.feature.Rid.{Rid}
use Rattle.fes_filter.specs.declared.filter.Filter.{Filter}
use Rattle.feature_overlay.specs.Laid.{laid}
use Rattle.query_core.specs.Selecting.{is_of_type, passes_filter, to_list, ids_of}
use Rattle.wfs_model.specs.declared.action.Action.{Action}
use Rattle.wfs_model.specs.declared.action.Action.TheVariants.{Insert, Update, Replace, Delete}
use Rattle.wfs_model.specs.declared.change.Part.{Part}
use Rattle.wfs_model.specs.declared.change.Part.TheVariants.{Put, Remove}
use Rattle.wfs_model.specs.declared.reply.Made.{Made}
use Rattle.wfs_model.specs.declared.reply.Refusal.{Refusal}
use Rattle.wfs_model.specs.Refusals.{not_one}

-- a state in the middle of a transaction, and what its actions have made and changed so far
pub record Acting : Type 0 where
  -- in default order
  pub features : List Feature
  pub counters : List ℕ
  pub inserted : List Made
  pub updated : List Made
  pub replaced : List Made
  pub deleted : ℕ

-- before the first action
abbrev pub begun : List Feature → List ℕ → Acting
begun features counters = record { features = features; counters = counters; inserted = []; updated = []; replaced = []; deleted = 0 }

abbrev pub told : Option (List ℕ) → Rid → Made
told handle id = record { id = id; handle = handle }

-- ---- features that come in

-- the feature under the next number of its type
abbrev pub numbered : List ℕ → Feature → Feature
numbered counters f = record f { id = record { kind = f.id.kind; number = get_or counters f.id.kind 0 + 1 } }

-- a feature comes in, under the next number of its type
unfoldable pub inserted : Option (List ℕ) → Acting → Feature → Acting
inserted handle at f =
    let g = numbered at.counters f in
    record at {
      features = laid at.features g.id (Some g);
      counters = slice_set at.counters g.id.kind g.id.number;
      inserted = at.inserted ++ told handle g.id ∷ [];
    }

-- ---- features that are selected

-- a feature of the type that passes the filter, or any of the type
abbrev pub is_aim : ℕ → Option Filter → Feature → Bool
is_aim kind filter f = is_of_type (Some kind) f && passes_filter filter f

-- an action selects a feature; an Insert selects none
unfoldable pub selects : Action → Feature → Bool
selects (Insert handle features) f = false
selects (Update handle kind sets filter) f = is_aim kind filter f
selects (Replace handle feature filter) f = is_aim feature.id.kind (Some filter) f
selects (Delete kind filter) f = is_aim kind (Some filter) f

abbrev pub with_value : List Value → ℕ × Value → List Value
with_value values set = slice_set values set.0 set.1

-- what stands under the identifier of a selected feature then
unfoldable pub instead : Action → Feature → Option Feature
instead (Insert handle features) f = Some f
instead (Update handle kind sets filter) f = Some (record f { values = fold with_value f.values sets })
instead (Replace handle feature filter) f = Some (record f { values = feature.values })
instead (Delete kind filter) f = None

-- what an action leaves of a feature
unfoldable pub left_of : Action → Feature → List Feature
left_of action f = if selects action f then to_list (instead action f) else f ∷ []

-- the features that an action selects
abbrev pub selected_by : Action → Acting → List Feature
selected_by action at = filter (selects action) at.features

-- the features that an action touches: those that it selects, by their identifiers
abbrev pub touched_by : Action → Acting → List Rid
touched_by action at = ids_of (selected_by action at)

-- what an action tells of the features that it selected, by their identifiers
unfoldable pub noted : Action → List Rid → Acting → Acting
noted (Insert handle features) ids at = at
noted (Update handle kind sets filter) ids at = record at { updated = at.updated ++ map (told handle) ids }
noted (Replace handle feature filter) ids at = record at { replaced = at.replaced ++ map (told handle) ids }
noted (Delete kind filter) ids at = record at { deleted = at.deleted + length ids }

-- ---- actions

-- more features than a Replace may be of
unfoldable pub are_too_many : Action → List Rid → Bool
are_too_many (Replace handle feature filter) ids = nat_lt 1 (length ids)
are_too_many action ids = false

-- what an action leaves of the features that stand, with what it tells of those that it selected
abbrev pub changed : Action → Acting → Acting
changed action at = noted action (touched_by action at) (record at { features = flat_map (left_of action) at.features })

-- what an action leaves, or why it is refused
unfoldable pub acted : Acting → Action → Result Acting Refusal
acted at (Insert handle features) = Ok (fold (inserted handle) at features)
acted at action = if are_too_many action (touched_by action at) then Err not_one else Ok (changed action at)

-- ---- what is kept of an action

-- the parts of features that come in, each under the next number
unfoldable pub parts_in : Option (List ℕ) → Acting → List Feature → List Part
parts_in handle at [] = []
parts_in handle at (f ∷ fs) = Put (numbered at.counters f) ∷ parts_in handle (inserted handle at f) fs

abbrev pub part_of : Feature → Option Feature → Part
part_of f None = Remove f.id
part_of f (Some g) = Put g

-- the changes of single features that an action comes to, in order
unfoldable pub parts_of : Action → Acting → List Part
parts_of (Insert handle features) at = parts_in handle at features
parts_of action at = map (λ f. part_of f (instead action f)) (selected_by action at)
