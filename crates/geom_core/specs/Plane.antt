-- Points, boxes and areas of the plane with whole-number coordinates, as contracts see them.
use Rattle.std.specs.Prelude.{ℤ, pos, negsuc, List, [], ◌∷◌, ◌≤ℤ◌, fold, Bool, ◌||◌, int_lt}
use Rattle.std.specs.Int.{int_min, int_max}

pub record Point : Type 0 where
  pub x : ℤ
  pub y : ℤ

-- A box with sides along the axes, by its corners of least and of greatest coordinates.
pub record Bounds : Type 0 where
  pub low : Point
  pub high : Point

-- What a polygon encloses: within the shell, and outside the holes.
pub record Area : Type 0 where
  pub shell : List Point
  pub holes : List (List Point)

-- A coordinate lies from -1,000,000,000 to 1,000,000,000.
pub record IsCoordinate (z : ℤ) : Type 0 where
  pub from : negsuc 999_999_999 ≤ℤ z
  pub to : z ≤ℤ pos 1_000_000_000

pub record IsPosition (p : Point) : Type 0 where
  pub x : IsCoordinate p.x
  pub y : IsCoordinate p.y

-- No coordinate of the low corner is above that of the high corner.
pub record IsUpright (b : Bounds) : Type 0 where
  pub x : b.low.x ≤ℤ b.high.x
  pub y : b.low.y ≤ℤ b.high.y

-- The corners of least and of greatest coordinates of the box between two points.
abbrev pub low_corner : Point → Point → Point
low_corner a b = record { x = int_min a.x b.x; y = int_min a.y b.y }

abbrev pub high_corner : Point → Point → Point
high_corner a b = record { x = int_max a.x b.x; y = int_max a.y b.y }

-- The least box that holds two points.
abbrev pub box_between : Point → Point → Bounds
box_between a b = record { low = low_corner a b; high = high_corner a b }

-- The box of one point, and the least box that holds a box and a point.
abbrev pub box_at : Point → Bounds
box_at p = record { low = p; high = p }

abbrev pub grown : Bounds → Point → Bounds
grown b p = record { low = low_corner b.low p; high = high_corner b.high p }

-- The least box that holds every point of a list; of no points, that of the origin.
abbrev pub least_box : List Point → Bounds
least_box [] = box_at (record { x = pos 0; y = pos 0 })
least_box (p ∷ ps) = fold grown (box_at p) ps

-- A low corner lies beyond a high corner in some direction.
abbrev pub is_beyond : Point → Point → Bool
is_beyond low high = int_lt high.x low.x || int_lt high.y low.y

-- Two boxes share no point.
unfoldable pub are_apart : Bounds → Bounds → Bool
are_apart a b = is_beyond a.low b.high || is_beyond b.low a.high

-- A point lies in a box, its sides included.
pub record IsInBox (p : Point) (b : Bounds) : Type 0 where
  pub from_x : b.low.x ≤ℤ p.x
  pub to_x : p.x ≤ℤ b.high.x
  pub from_y : b.low.y ≤ℤ p.y
  pub to_y : p.y ≤ℤ b.high.y
