-- Which points a ring and an area enclose. Rings may cross themselves: the count of crossings decides.
use Rattle.std.specs.Prelude.{ℕ, ℤ, pos, List, [], ◌∷◌, ◌%◌, Bool, ◌&&◌, ◌||◌, not, nat_eq, int_lt, int_le, count_by}
use Rattle.std.specs.List.{list_any}
use Rattle.geom_core.specs.Plane.{Point, Area}
use Rattle.geom_core.specs.Segments.{Segment, sign, is_on}

-- The segments between consecutive points.
abbrev pub edges_from : Point → List Point → List Segment
edges_from p [] = []
edges_from p (q ∷ qs) = (record { from = p; to = q }) ∷ edges_from q qs

abbrev pub edges : List Point → List Segment
edges [] = []
edges (p ∷ ps) = edges_from p ps

-- The one point lies at a height or below it, and the other above it.
abbrev pub spans_height : ℤ → Point → Point → Bool
spans_height y low high = int_le low.y y && int_lt y high.y

-- An edge rises past the height of a point, from its end `low` to its end `high`, and the point lies on
-- its left, so that the ray from the point to greater x crosses it.
unfoldable pub rises_past : Point → Point → Point → Bool
rises_past p low high = spans_height p.y low high && int_lt (pos 0) (sign low high p)

-- The ray to greater x crosses an edge, taken as it has its one end above the point.
-- An end at the point's height counts as below, so a corner on the ray is counted once.
unfoldable pub is_crossed : Point → Segment → Bool
is_crossed p e = rises_past p e.from e.to || rises_past p e.to e.from

abbrev pub is_odd : ℕ → Bool
is_odd n = nat_eq (n % 2) 1

-- A point lies on an edge of a ring.
unfoldable pub is_on_ring : Point → List Point → Bool
is_on_ring p ring = list_any (is_on p) (edges ring)

-- An odd number of a ring's edges is crossed.
unfoldable pub is_round : Point → List Point → Bool
is_round p ring = is_odd (count_by (is_crossed p) (edges ring))

-- A point lies within a ring and on none of its edges.
unfoldable pub is_strictly_within : Point → List Point → Bool
is_strictly_within p ring = not (is_on_ring p ring) && is_round p ring

-- A point lies within a ring or on it.
unfoldable pub is_within : Point → List Point → Bool
is_within p ring = is_on_ring p ring || is_round p ring

-- A point lies in an area: on an edge of one of its rings, or within the shell and strictly within no hole.
unfoldable pub is_in_area : Point → Area → Bool
is_in_area p area =
    (is_on_ring p area.shell || list_any (is_on_ring p) area.holes)
    || (is_round p area.shell && not (list_any (is_strictly_within p) area.holes))
