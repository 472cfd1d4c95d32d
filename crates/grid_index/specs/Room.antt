-- The room of a grid.
use Rattle.std.specs.Prelude.{ℕ, ◌≤◌, if◌then◌else◌, List}
use Rattle.std.specs.List.{sum_by}
use Rattle.geom_core.specs.Plane.{Bounds}
use Rattle.grid_index.specs.Cells.{is_wide, cell_count}
use Rattle.grid_index.specs.Gridded.{Gridded, room_at}
use Rattle.grid_index.specs.Places.{Place, taking}

-- how many places a box takes: each of its cells, or the wide list
unfoldable pub places : Bounds → ℕ
places b = if is_wide b then 1 else cell_count b

-- a list of boxes is spare: at each place there is room for those that take it
abbrev pub IsSpare : List Bounds → Gridded → Type 0
IsSpare areas grid = (place : Place) → sum_by (taking place) areas ≤ room_at grid.room place
