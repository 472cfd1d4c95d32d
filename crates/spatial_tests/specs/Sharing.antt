-- When geometries intersect (OGC 09-026r2, section 7.8: Intersects, Disjoint and BBOX).
use Rattle.std.specs.Prelude.{Bool, false, ◌&&◌, ◌||◌, int_le, List, [], ◌∷◌, ◌++◌, flat_map}
use Rattle.std.specs.List.{list_any}
use Rattle.geom_core.specs.Plane.{Point, Bounds, Area}
use Rattle.geom_core.specs.Segments.{Segment, do_meet}
use Rattle.geom_core.specs.Rings.{edges}
use Rattle.geom_core.specs.Extents.{positions_of, is_covered}
use Rattle.geom_core.specs.declared.geometry.Geometry.{Geometry}
use Rattle.geom_core.specs.declared.geometry.Geometry.TheVariants.{At, Along, Over}

-- The segments of an area are the edges of its rings.
abbrev pub segments_of_area : Area → List Segment
segments_of_area area = edges area.shell ++ flat_map edges area.holes

-- The segments of a geometry. A point is one segment of length 0.
abbrev pub segments_of : Geometry → List Segment
segments_of (At p) = (record { from = p; to = p }) ∷ []
segments_of (Along line) = edges line
segments_of (Over area) = segments_of_area area

-- A segment meets one of a list.
abbrev pub meets_some : Segment → List Segment → Bool
meets_some s ts = list_any (do_meet s) ts

-- A segment of the one list meets one of the other.
abbrev pub do_any_meet : List Segment → List Segment → Bool
do_any_meet ss ts = list_any (λ s. meets_some s ts) ss

-- The first of these points passes a test.
abbrev pub is_first : (Point → Bool) → List Point → Bool
is_first test [] = false
is_first test (p ∷ ps) = test p

-- The first vertex of the second geometry, which of a polygon is its shell's, lies in the area of the first.
abbrev pub covers_first : Geometry → Geometry → Bool
covers_first a b = is_first (λ p. is_covered p a) (positions_of b)

-- Geometries intersect where two of their segments meet, or the first vertex of one lies in the other's area.
unfoldable pub do_intersect : Geometry → Geometry → Bool
do_intersect a b = do_any_meet (segments_of a) (segments_of b) || (covers_first a b || covers_first b a)

-- The sides of a box, from its low corner round to the left.
abbrev pub sides : Bounds → List Segment
sides b =
    let right : Point = record { x = b.high.x; y = b.low.y } in
    let left : Point = record { x = b.low.x; y = b.high.y } in
    (record { from = b.low; to = right }) ∷ ((record { from = right; to = b.high })
    ∷ ((record { from = b.high; to = left }) ∷ ((record { from = left; to = b.low }) ∷ [])))

-- A point lies in a box, its sides included.
abbrev pub is_in_width : Point → Bounds → Bool
is_in_width p b = int_le b.low.x p.x && int_le p.x b.high.x

abbrev pub is_in_height : Point → Bounds → Bool
is_in_height p b = int_le b.low.y p.y && int_le p.y b.high.y

abbrev pub is_in_box : Point → Bounds → Bool
is_in_box p b = is_in_width p b && is_in_height p b

-- A geometry meets a box where a side of the box meets one of its segments, or its first vertex lies in the
-- box, or the box's low corner lies in its area.
unfoldable pub do_meet_box : Geometry → Bounds → Bool
do_meet_box g b = do_any_meet (sides b) (segments_of g) || (is_first (λ p. is_in_box p b) (positions_of g) || is_covered b.low g)
