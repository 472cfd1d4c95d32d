-- Which changes are reserved: there is room for all that they add.
use Rattle.std.specs.Prelude.{ℕ, ◌<◌, ◌≤◌, ◌==◌, List, [], ◌∷◌, length, get_or, filter, flat_map, ⊤}
use Rattle.std.specs.List.{sum_by}
use Rattle.feature_values.specs.declared.feature.Feature.{Feature}
use Rattle.wfs_model.specs.declared.change.Part.{Part}
use Rattle.wfs_model.specs.declared.change.Part.TheVariants.{Put, Remove}
use Rattle.wfs_model.specs.declared.change.Change.{Change}
use Rattle.wfs_model.specs.declared.change.Change.TheVariants.{Rows, Created}
use Rattle.feature_versions.specs.Holding.{Room, TypeRoom}
use Rattle.grid_index.specs.Gridded.{room_at}
use Rattle.grid_index.specs.Places.{Place}
use Rattle.feature_versions.specs.Placed.{taken_by}

-- the features that parts put
abbrev pub put_in : Part → List Feature
put_in (Put f) = f ∷ []
put_in (Remove id) = []

abbrev pub all_put : List Part → List Feature
all_put parts = flat_map put_in parts

-- those of some features that are of a type
abbrev pub of_type : ℕ → List Feature → List Feature
of_type kind features = filter (λ f. f.id.kind == kind) features

-- a type has room for features: a row for each, and at each place for those of their boxes that take it
pub record HasRoom (features : List Feature) (room : TypeRoom) : Type 0 where
  pub rows : length features ≤ room.rows
  pub places : (place : Place) → sum_by (taken_by place) features ≤ room_at room.places place

-- each type has room for those of its features that come, and all of them can be counted
pub record HasRoomForAll (features : List Feature) (room : Room) : Type 0 where
  pub count : length features ≤ room.features
  pub types : (kind : ℕ) (d : TypeRoom) → kind < length room.types → HasRoom (of_type kind features) (get_or room.types kind d)

-- A change is reserved: no memory has to be taken for it.
abbrev pub IsReserved : Change → Room → Type 0
IsReserved (Rows parts) room = HasRoomForAll (all_put parts) room
IsReserved (Created queries) room = length queries ≤ room.stored
IsReserved change room = ⊤
