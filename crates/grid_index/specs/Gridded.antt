-- What contracts see of a grid: the pairs that stand at each place, and for how many more there is room.
use Rattle.std.specs.Prelude.{◌≡◌, ℕ, ◌-◌, ◌<◌, ◌≤◌, ◌&&◌, List, [], cond}
use Rattle.std.specs.Map.{lookup}
use Rattle.std.specs.Option.{unwrap_or}
use Rattle.geom_core.specs.Plane.{IsUpright}
use Rattle.grid_index.specs.Counts.{one_if, is_pair, times}
use Rattle.grid_index.specs.Near.{Placed}
use Rattle.grid_index.specs.Places.{Place, same_place, takes}

pub record Gridded : Type 0 where
  -- the pairs of each place where there are some, in any order
  pub pairs : List (Place × List Placed)
  -- for how many more there is room, by place
  pub room : List (Place × ℕ)

-- the pairs at a place
abbrev pub pairs_at : Gridded → Place → List Placed
pairs_at grid place = unwrap_or (lookup (same_place place) grid.pairs) []

-- for how many more pairs there is room at a place
abbrev pub room_at : List (Place × ℕ) → Place → ℕ
room_at room place = unwrap_or (lookup (same_place place) room) 0

-- there is no less room than before
abbrev pub HasNoLessRoom : List (Place × ℕ) → List (Place × ℕ) → Type 0
HasNoLessRoom old new = (place : Place) → room_at old place ≤ room_at new place

-- A grid of pairs, in any order: each stands as often at each of its places, and at no other.
pub record IsGridOf (at : Place → List Placed) (pairs : List Placed) : Type 0 where
  pub counted : (place : Place) (p : Placed) → times p (at place) ≡ cond (takes p.1 place) (times p pairs) 0
  pub upright : (p : Placed) → 0 < times p pairs → IsUpright p.1

-- at each place of a pair it stands once less, where it stood there, and each other pair as often
abbrev pub IsTakenOut : Placed → (Place → List Placed) → (Place → List Placed) → Type 0
IsTakenOut pair old new = (place : Place) (p : Placed) → times p (new place) ≡ times p (old place) - one_if (takes pair.1 place && is_pair p pair)
