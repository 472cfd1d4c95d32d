-- What a grid holds, and which of it is near a box.
use Rattle.std.specs.Prelude.{◌≡◌, Bool, true, false, ◌&&◌, ◌==◌, List}
use Rattle.std.specs.List.{list_any, IsDistinct}
use Rattle.geom_core.specs.Plane.{Bounds, are_apart}
use Rattle.feature_values.specs.declared.feature.Rid.{Rid}
use Rattle.grid_index.specs.Cells.{is_near}

-- a feature with a box that it has
abbrev pub Placed : Type 0
Placed = Rid × Bounds

abbrev pub is_same : Rid → Rid → Bool
is_same a b = (a.kind == b.kind) && (a.number == b.number)

abbrev pub is_among : Rid → List Rid → Bool
is_among id ids = list_any (λ i. is_same i id) ids

-- a pair puts this feature near a box
abbrev pub puts_near : Bounds → Rid → Placed → Bool
puts_near asked id placed = is_near asked placed.1 && is_same placed.0 id

-- these are the features near a box, each once
pub record AreNear (asked : Bounds) (pairs : List Placed) (ids : List Rid) : Type 0 where
  pub just : (id : Rid) → is_among id ids ≡ list_any (puts_near asked id) pairs
  pub once : IsDistinct is_same ids

-- a feature is among these, where its box shares a position with another
abbrev pub IsMet : Bounds → List Rid → Placed → Type 0
IsMet asked ids placed = are_apart placed.1 asked ≡ false → is_among placed.0 ids ≡ true
