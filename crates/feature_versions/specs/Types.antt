-- The features of all types, type by type, and what parts do to them.
use Rattle.std.specs.Prelude.{◌≡◌, ℕ, ◌<◌, ◌≤◌, List, ◌++◌, length, get_or, flat_map, All, Some, None, slice_get, ⊤}
use Rattle.std.specs.Option.{option_to_list}
use Rattle.feature_values.specs.declared.feature.Feature.{Feature}
use Rattle.feature_overlay.specs.Laid.{laid}
use Rattle.grid_index.specs.Gridded.{HasNoLessRoom}
use Rattle.wfs_model.specs.declared.change.Part.{Part}
use Rattle.wfs_model.specs.declared.change.Part.TheVariants.{Put, Remove}
use Rattle.wfs_model.specs.State.{Durable}
use Rattle.wfs_model.specs.Played.{raised}
use Rattle.feature_versions.specs.Holding.{TypeRoom}
use Rattle.feature_versions.specs.Layer.{Layered}
use Rattle.feature_versions.specs.Reserved.{of_type, put_in, HasRoom}

-- ---- types

-- the features of all types, in default order where each type stands at its place
abbrev pub features_of : List Layered → List Feature
features_of layers = flat_map (λ layer. layer.features) layers

-- the features of the type at a place, where there is one
abbrev pub features_at : ℕ → List Layered → List Feature
features_at kind layers = features_of (option_to_list (slice_get layers kind))

pub record IsOfType (kind : ℕ) (layer : Layered) : Type 0 where
  pub is : layer.kind ≡ kind
  pub own : All (λ f. f.id.kind ≡ kind) layer.features

-- each type stands at its place
abbrev pub AreTyped : List Layered → Type 0
AreTyped layers = (kind : ℕ) (d : Layered) → kind < length layers → IsOfType kind (get_or layers kind d)

-- ---- room

abbrev pub room_of : Layered → TypeRoom
room_of layer = record { rows = layer.rows; places = layer.places }

-- each type has room for those of some features that are of it
abbrev pub HasRooms : List Feature → List Layered → Type 0
HasRooms features layers = (kind : ℕ) (d : Layered) → kind < length layers → HasRoom (of_type kind features) (room_of (get_or layers kind d))

-- the same type with the same features
pub record IsAlike (old new : Layered) : Type 0 where
  pub kind : new.kind ≡ old.kind
  pub features : new.features ≡ old.features

pub record AreAlike (old new : List Layered) : Type 0 where
  pub types : length new ≡ length old
  pub each : (kind : ℕ) (d : Layered) → kind < length old → IsAlike (get_or old kind d) (get_or new kind d)

-- no less room
pub record IsRoomier (old new : Layered) : Type 0 where
  pub rows : old.rows ≤ new.rows
  pub places : HasNoLessRoom old.places new.places

abbrev pub AreRoomier : List Layered → List Layered → Type 0
AreRoomier old new = (kind : ℕ) (d : Layered) → kind < length old → IsRoomier (get_or old kind d) (get_or new kind d)

-- ---- parts

-- a part puts no feature of a type that is not there
abbrev pub IsWithin : ℕ → Part → Type 0
IsWithin types (Put f) = f.id.kind < types
IsWithin types (Remove id) = ⊤

-- what a part leaves of features, and of the counters
abbrev pub part_laid : List Feature → Part → List Feature
part_laid features (Put f) = laid features f.id (Some f)
part_laid features (Remove id) = laid features id None

abbrev pub counted : List ℕ → Part → List ℕ
counted counters (Put f) = raised counters f.id.kind f.id.number
counted counters (Remove id) = counters

-- what is kept, with these features and counters
abbrev pub with_rows : Durable → List Feature → List ℕ → Durable
with_rows kept features counters = record kept { features = features; counters = counters }

-- a part is played on the features of all types
pub record Plays (part : Part) (old new : List Layered) : Type 0 where
  pub features : features_of new ≡ part_laid (features_of old) part
  pub typed : AreTyped new
  pub types : length new ≡ length old
  pub room : (later : List Feature) → HasRooms (put_in part ++ later) old → HasRooms later new
