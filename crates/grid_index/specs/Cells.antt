-- The cells of the plane, squares of side 65,536, and which of them a box covers.
use Rattle.std.specs.Prelude.{ℕ, ◌+◌, ◌*◌, ◌/◌, ◌%◌, ℤ, pos, ◌+ℤ◌, ◌-ℤ◌, unsigned_abs, Bool, ◌||◌, not, nat_lt}
use Rattle.std.specs.Int.{int_div_euclid}
use Rattle.geom_core.specs.Plane.{Bounds, are_apart, box_at}

-- the cell of a coordinate: its quotient by the side, rounded down
unfoldable pub cell_of : ℤ → ℤ
cell_of z = int_div_euclid z (pos 65_536)

-- the cells that a box covers, as a box of cells
abbrev pub cells_of : Bounds → Bounds
cells_of b = record { low = record { x = cell_of b.low.x; y = cell_of b.low.y }; high = record { x = cell_of b.high.x; y = cell_of b.high.y } }

-- how many cells there are from one to another, both counted
abbrev pub span : ℤ → ℤ → ℕ
span low high = unsigned_abs (high -ℤ low) + 1

-- how many cells a box covers
abbrev pub cell_count : Bounds → ℕ
cell_count b = let cells = cells_of b in span cells.low.x cells.high.x * span cells.low.y cells.high.y

-- a cell is one of those that a box covers
unfoldable pub covers : Bounds → ℤ × ℤ → Bool
covers b cell = not (are_apart (cells_of b) (box_at (record { x = cell.0; y = cell.1 })))

-- the cells that a box covers by number, column by column
unfoldable pub cell_at : Bounds → ℕ → ℤ × ℤ
cell_at b i = let cells = cells_of b in let height = span cells.low.y cells.high.y in (cells.low.x +ℤ pos (i / height), cells.low.y +ℤ pos (i % height))

-- a box that covers so many cells that it stands on the wide list, and in no cell
unfoldable pub is_wide : Bounds → Bool
is_wide b = nat_lt 64 (cell_count b)

-- a box that covers so many cells that everything counts as near it
unfoldable pub is_huge : Bounds → Bool
is_huge b = nat_lt 65_536 (cell_count b)

-- two boxes cover a cell together
unfoldable pub share_cell : Bounds → Bounds → Bool
share_cell a b = not (are_apart (cells_of a) (cells_of b))

-- a box is near another by the grid
abbrev pub is_near : Bounds → Bounds → Bool
is_near asked area = is_huge asked || (is_wide area || share_cell area asked)
