-- What holds of all that is kept, type by type.
use Rattle.std.specs.Prelude.{◌≡◌, ℕ, ◌-◌, ◌≤◌, List, length, map}
use Rattle.feature_values.specs.declared.schema.Schema.{Schema}
use Rattle.wfs_model.specs.declared.stored.StoredQuery.{StoredQuery}
use Rattle.wfs_model.specs.Kept.{IsKept}
use Rattle.wfs_model.specs.State.{Durable}
use Rattle.feature_versions.specs.Holding.{Room}
use Rattle.feature_versions.specs.Layer.{Layered}
use Rattle.feature_versions.specs.Types.{features_of, room_of, AreTyped}

-- the greatest number of 64 bits
abbrev pub most : ℕ
most = 18_446_744_073_709_551_615

-- what is kept, of its parts
abbrev pub kept_in : List Layered → List ℕ → List StoredQuery → ℕ → Durable
kept_in layers counters stored opening = record { features = features_of layers; counters = counters; stored = stored; opening = opening }

abbrev pub room_in : List Layered → ℕ → Room
room_in layers stored = record { features = most - length (features_of layers); types = map room_of layers; stored = stored }

pub record IsHeld (schema : Schema) (layers : List Layered) (kept : Durable) : Type 0 where
  pub well : IsKept schema kept
  -- each type of the schema at its place
  pub types : length layers ≡ length schema.types
  pub typed : AreTyped layers
  -- the features can be counted
  pub short : length (features_of layers) ≤ most
