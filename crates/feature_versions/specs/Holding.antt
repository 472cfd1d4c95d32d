-- What contracts see of features and of all else that outlives the process, and for how much more of it there is room.
use Rattle.std.specs.Prelude.{ℕ, List}
use Rattle.feature_values.specs.declared.schema.Schema.{Schema}
use Rattle.grid_index.specs.Places.{Place}
use Rattle.wfs_model.specs.State.{Durable}

-- the room in one type: for so many more features, and for so many more boxes in its grid, by place
pub record TypeRoom : Type 0 where
  pub rows : ℕ
  pub places : List (Place × ℕ)

-- For how much more there is room, so that no memory has to be taken.
pub record Room : Type 0 where
  -- so many more features can be counted in 64 bits
  pub features : ℕ
  -- by type, in the order of the schema
  pub types : List TypeRoom
  -- so many more stored queries
  pub stored : ℕ

pub record Holding : Type 0 where
  pub schema : Schema
  pub kept : Durable
  pub room : Room
