-- The places where pairs stand: the cells of the plane, and the wide list.
use Rattle.std.specs.Prelude.{ℕ, zero, suc, ℤ, Bool, true, false, ◌&&◌, ◌||◌, not, if◌then◌else◌, Option, Some, None}
use Rattle.std.specs.Ordering.{int_eq}
use Rattle.std.specs.Option.{option_eq}
use Rattle.geom_core.specs.Plane.{Bounds}
use Rattle.grid_index.specs.Cells.{is_wide, covers, cell_at}
use Rattle.grid_index.specs.Counts.{one_if}

-- a place that a box takes: in a cell, which has two numbers, or in none, which is the wide list
abbrev pub Place : Type 0
Place = Option (ℤ × ℤ)

abbrev pub same_cell : ℤ × ℤ → ℤ × ℤ → Bool
same_cell a b = int_eq a.0 b.0 && int_eq a.1 b.1

abbrev pub same_place : Place → Place → Bool
same_place a b = option_eq same_cell a b

-- a box takes this place
abbrev pub takes : Bounds → Place → Bool
takes b None = is_wide b
takes b (Some cell) = not (is_wide b) && covers b cell

-- how many pairs a box needs room for at a place: one where it takes it
abbrev pub taking : Place → Bounds → ℕ
taking place b = one_if (takes b place)

-- a place where pairs near a box are asked for
abbrev pub is_asked : Bounds → Place → Bool
is_asked b None = true
is_asked b (Some cell) = covers b cell

-- the places that a box takes, by number
abbrev pub place_at : Bounds → ℕ → Place
place_at b i = if is_wide b then None else Some (cell_at b i)

-- a place is among the first n of these
abbrev pub is_among_first : ℕ → (ℕ → Place) → Place → Bool
is_among_first zero at place = false
is_among_first (suc n) at place = is_among_first n at place || same_place (at n) place
