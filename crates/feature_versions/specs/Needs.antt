-- What features that come need of each type.
use Rattle.std.specs.Prelude.{◌≡◌, ℕ, ◌<◌, ◌≤◌, List, length, get_or}
use Rattle.std.specs.List.{sum_by}
use Rattle.feature_values.specs.declared.feature.Feature.{Feature}
use Rattle.grid_index.specs.Gridded.{room_at}
use Rattle.grid_index.specs.Places.{Place, taking}
use Rattle.feature_versions.specs.declared.reserving.Need.{Need}
use Rattle.feature_versions.specs.Layer.{Layered}
use Rattle.feature_versions.specs.Placed.{taken_by}
use Rattle.feature_versions.specs.Reserved.{of_type}

-- a row for each feature, and as many boxes at each place as they have
pub record IsNeed (features : List Feature) (need : Need) : Type 0 where
  pub rows : need.rows ≡ length features
  pub places : (place : Place) → sum_by (taking place) need.boxes ≡ sum_by (taken_by place) features

-- by type, what those of some features need that are of it
abbrev pub AreNeeds : List Feature → List Need → Type 0
AreNeeds features needs = (kind : ℕ) (d : Need) → kind < length needs → IsNeed (of_type kind features) (get_or needs kind d)

-- a type has room for what is needed
pub record IsMet (need : Need) (layer : Layered) : Type 0 where
  pub rows : need.rows ≤ layer.rows
  pub places : (place : Place) → sum_by (taking place) need.boxes ≤ room_at layer.places place

-- the same of the first so many types
abbrev pub AreMet : ℕ → List Need → List Layered → Type 0
AreMet types needs layers = (kind : ℕ) (d : Need) (e : Layered) → kind < types → IsMet (get_or needs kind d) (get_or layers kind e)
