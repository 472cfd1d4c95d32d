-- The boxes of features in a grid.
use Rattle.std.specs.Prelude.{◌≡◌, ℕ, IsTrue, List, map, flat_map, All, Option, Some, None, ⊤}
use Rattle.std.specs.List.{sum_by}
use Rattle.geom_core.specs.declared.geometry.Geometry.{Geometry}
use Rattle.geom_core.specs.Plane.{Point, Bounds, IsInBox}
use Rattle.geom_core.specs.Extents.{IsLeastBox, positions_of, bounds_of, is_covered}
use Rattle.feature_values.specs.declared.value.Value.{Value}
use Rattle.feature_values.specs.declared.value.Value.TheVariants.{Shape}
use Rattle.feature_values.specs.declared.feature.Feature.{Feature}
use Rattle.feature_values.specs.declared.feature.Rid.{Rid}
use Rattle.grid_index.specs.Gridded.{Gridded, pairs_at, IsGridOf}
use Rattle.grid_index.specs.Near.{Placed}
use Rattle.grid_index.specs.Places.{Place, taking}
use Rattle.feature_versions.specs.Near.{boxes_of}

-- how many of the boxes of a feature take a place of a grid
abbrev pub taken_by : Place → Feature → ℕ
taken_by place f = sum_by (taking place) (boxes_of f)

-- a feature with each of some boxes, and with each that it has
abbrev pub placed : Rid → List Bounds → List Placed
placed id boxes = map (λ b. (id, b)) boxes

abbrev pub placed_in : Feature → List Placed
placed_in f = placed f.id (boxes_of f)

-- a grid holds each box of features as often as they have it, and no other
abbrev pub HoldsBoxes : Gridded → List Feature → Type 0
HoldsBoxes grid features = IsGridOf (pairs_at grid) (flat_map placed_in features)

-- there is a feature, and it has the boxes of another
abbrev pub HasSameBoxes : Option Feature → Feature → Type 0
HasSameBoxes None new = ⊥
HasSameBoxes (Some old) new = boxes_of old ≡ boxes_of new

-- ---- geometries in their boxes

-- A geometry lies in its least box, and so does what it encloses.
pub record IsBoxed (g : Geometry) : Type 0 where
  pub least : IsLeastBox (bounds_of g) (positions_of g)
  pub area : (p : Point) → IsTrue (is_covered p g) → IsInBox p (bounds_of g)

abbrev pub IsBoxedIn : Value → Type 0
IsBoxedIn (Shape shape) = IsBoxed shape
IsBoxedIn value = ⊤

-- each geometry of a feature lies in its box
abbrev pub AreBoxed : Feature → Type 0
AreBoxed f = All IsBoxedIn f.values
