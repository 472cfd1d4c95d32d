-- The boxes of a feature, and which features are near a box by the cells of the grid.
use Rattle.std.specs.Prelude.{ℕ, Bool, ◌&&◌, ◌==◌, List, [], ◌∷◌, length, filter, flat_map}
use Rattle.std.specs.List.{list_any}
use Rattle.geom_core.specs.Plane.{Bounds}
use Rattle.geom_core.specs.Extents.{bounds_of}
use Rattle.feature_values.specs.declared.value.Value.{Value}
use Rattle.feature_values.specs.declared.value.Value.TheVariants.{Shape}
use Rattle.feature_values.specs.declared.feature.Feature.{Feature}
use Rattle.grid_index.specs.Cells.{is_near}

-- a geometry has its least box, and no other value has one
abbrev pub boxes_in : Value → List Bounds
boxes_in (Shape shape) = bounds_of shape ∷ []
boxes_in value = []

-- the boxes of a feature, one for each of its geometries
abbrev pub boxes_of : Feature → List Bounds
boxes_of f = flat_map boxes_in f.values

-- a feature of a type that has a box near another by the cells of the grid
abbrev pub is_found : ℕ → Bounds → Feature → Bool
is_found kind area f = (f.id.kind == kind) && list_any (is_near area) (boxes_of f)

-- how many features of a type there are that have such a box
abbrev pub most_near : List Feature → ℕ → Bounds → ℕ
most_near features kind area = length (filter (is_found kind area) features)
