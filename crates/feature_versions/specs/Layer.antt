-- The features of one type, as the calls on them are told, and what holds of their rows and their grid.
use Rattle.std.specs.Prelude.{◌≡◌, ℕ, List, length, All}
use Rattle.feature_values.specs.declared.feature.Feature.{Feature}
use Rattle.grid_index.specs.Gridded.{Gridded}
use Rattle.grid_index.specs.Places.{Place}
use Rattle.feature_versions.specs.declared.rows.Row.{Row}
use Rattle.feature_versions.specs.Rows.{AreGone, AreRows, live}
use Rattle.feature_versions.specs.Placed.{HoldsBoxes, AreBoxed}

pub record Layered : Type 0 where
  -- the number of the type
  pub kind : ℕ
  -- by number
  pub features : List Feature
  -- there is room for so many more rows
  pub rows : ℕ
  -- and for so many more boxes in the grid, by place
  pub places : List (Place × ℕ)

pub record IsLayer (kind : ℕ) (rows : List Row) (count : ℕ) (grid : Gridded) : Type 0 where
  pub are : AreRows kind rows
  pub counted : count ≡ length (live rows)
  pub boxes : HoldsBoxes grid (live rows)
  pub boxed : All AreBoxed (live rows)

-- the same, where the first feature stands from a place on
pub record IsLayerFrom (first kind : ℕ) (rows : List Row) (count : ℕ) (grid : Gridded) : Type 0 where
  pub layer : IsLayer kind rows count grid
  pub gone : AreGone first rows
