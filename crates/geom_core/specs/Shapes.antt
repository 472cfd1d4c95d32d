-- Which lists of positions are shapes, and which fault is named otherwise.
use Rattle.std.specs.Prelude.{ℤ, pos, negsuc, List, [], ◌∷◌, ◌+◌, length, sum_by, ◌≤◌, IsTrue, Bool, true, ◌&&◌, nat_lt, int_le, if◌then◌else◌, Result, Ok, Err}
use Rattle.std.specs.List.{list_all}
use Rattle.std.specs.Ordering.{int_eq, eq_of_both, on}
use Rattle.std.specs.Cmp.Lexicographic.{pointwise}
use Rattle.geom_core.specs.Plane.{Point, Bounds, Area}
use Rattle.geom_core.specs.Rings.{is_within}
use Rattle.geom_core.specs.declared.fault.GeomFault.{GeomFault}
use Rattle.geom_core.specs.declared.fault.GeomFault.TheVariants.{OutOfRange, TooMany, TooFew, NotClosed, Turned, HoleOutside}

abbrev pub is_coordinate : ℤ → Bool
is_coordinate z = int_le (negsuc 999_999_999) z && int_le z (pos 1_000_000_000)

-- The position at two coordinates.
abbrev pub position_of : ℤ → ℤ → Result Point GeomFault
position_of x y = if is_coordinate x && is_coordinate y then Ok (record { x = x; y = y }) else Err OutOfRange

-- The box between two corners.
abbrev pub box_of : Point → Point → Result Bounds GeomFault
box_of low high = if int_le low.x high.x && int_le low.y high.y then Ok (record { low = low; high = high }) else Err Turned

-- Equality of points, and of areas by their rings.
abbrev pub same_point : Point → Point → Bool
same_point = eq_of_both (on (λ p. p.x) int_eq) (on (λ p. p.y) int_eq)

abbrev pub same_area : Area → Area → Bool
same_area = eq_of_both (on (λ a. a.shell) (pointwise same_point)) (on (λ a. a.holes) (pointwise (pointwise same_point)))

-- The last point of a list that begins with p.
abbrev pub last_of : Point → List Point → Point
last_of p [] = p
last_of p (q ∷ qs) = last_of q qs

-- The last point is the first.
abbrev pub is_closed : List Point → Bool
is_closed [] = true
is_closed (p ∷ ps) = same_point p (last_of p ps)

-- How many positions a line has, and how many a ring has, whose last is its first.
pub record IsLine (ps : List Point) : Type 0 where
  pub few : 2 ≤ length ps
  pub many : length ps ≤ 10_000

pub record IsRing (ps : List Point) : Type 0 where
  pub few : 4 ≤ length ps
  pub many : length ps ≤ 10_000
  pub closed : IsTrue (is_closed ps)

-- A line of two to 10,000 positions.
abbrev pub line_of : List Point → Result (List Point) GeomFault
line_of ps = if nat_lt 10_000 (length ps) then Err TooMany else if nat_lt (length ps) 2 then Err TooFew else Ok ps

-- A closed ring of four to 10,000 positions.
abbrev pub ring_of : List Point → Result (List Point) GeomFault
ring_of ps = if nat_lt 10_000 (length ps) then Err TooMany else if nat_lt (length ps) 4 then Err TooFew else if is_closed ps then Ok ps else Err NotClosed

-- Each position of each hole lies within the shell or on it.
abbrev pub is_hole_within : List Point → List Point → Bool
is_hole_within shell hole = list_all (λ p. is_within p shell) hole

abbrev pub are_holes_within : List Point → List (List Point) → Bool
are_holes_within shell holes = list_all (is_hole_within shell) holes

pub record IsPolygon (shell : List Point) (holes : List (List Point)) : Type 0 where
  pub many : length shell + sum_by length holes ≤ 10_000
  pub inside : IsTrue (are_holes_within shell holes)

-- A polygon of at most 10,000 positions in all.
abbrev pub polygon_of : List Point → List (List Point) → Result Area GeomFault
polygon_of shell holes =
    if nat_lt 10_000 (length shell + sum_by length holes) then Err TooMany
    else if are_holes_within shell holes then Ok (record { shell = shell; holes = holes }) else Err HoleOutside
