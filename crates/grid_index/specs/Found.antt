-- Features that were found, with marks of them.
use Rattle.std.specs.Prelude.{◌≡◌, ℕ, zero, suc, Bool, false, ◌&&◌, ◌||◌, nat_eq, List, Some, None}
use Rattle.std.specs.List.{list_any, IsDistinct}
use Rattle.std.specs.HashSet.{HashSet, contains}
use Rattle.geom_core.specs.Plane.{Bounds}
use Rattle.feature_values.specs.declared.feature.Rid.{Rid}
use Rattle.grid_index.specs.Cells.{cell_count, cell_at}
use Rattle.grid_index.specs.Near.{Placed, is_among, is_same, puts_near}
use Rattle.grid_index.specs.Places.{Place}

abbrev pub pair_eq : ℕ × ℕ → ℕ × ℕ → Bool
pair_eq a b = nat_eq a.0 b.0 && nat_eq a.1 b.1

-- just the features of a list are marked, and each stands in it once
pub record AreMarked {S : Type 0} (marks : HashSet (ℕ × ℕ) S) (ids : List Rid) : Type 0 where
  pub marked : (id : Rid) → is_among id ids ≡ contains pair_eq marks (id.kind, id.number)
  pub once : IsDistinct is_same ids

-- a pair is of this feature
abbrev pub is_of : Rid → Placed → Bool
is_of id p = is_same p.0 id

-- the features of pairs were found besides
abbrev pub FindsAlso : List Placed → List Rid → List Rid → Type 0
FindsAlso pairs old new = (id : Rid) → is_among id new ≡ (is_among id old || list_any (is_of id) pairs)

-- those of pairs near a box were found besides
abbrev pub FindsNear : Bounds → List Placed → List Rid → List Rid → Type 0
FindsNear asked pairs old new = (id : Rid) → is_among id new ≡ (is_among id old || list_any (puts_near asked id) pairs)

-- a pair of the first so many cells of a box is of this feature
abbrev pub is_in_first : (Place → List Placed) → Bounds → Rid → ℕ → Bool
is_in_first at asked id zero = false
is_in_first at asked id (suc n) = is_in_first at asked id n || list_any (is_of id) (at (Some (cell_at asked n)))

-- the features of the wide list and of the cells of a box were found
abbrev pub FindsAsked : (Place → List Placed) → Bounds → List Rid → Type 0
FindsAsked at asked found = (id : Rid) → is_among id found ≡ (list_any (is_of id) (at None) || is_in_first at asked id (cell_count asked))
