-- Where a point lies in a ring, and in the holes of an area.
use Rattle.std.specs.Prelude.{Bool, true, false, if◌then◌else◌, List, count_by}
use Rattle.std.specs.List.{list_any}
use Rattle.geom_core.specs.Plane.{Point}
use Rattle.geom_core.specs.Segments.{Segment, is_on}
use Rattle.geom_core.specs.Rings.{is_on_ring, is_round, is_odd, is_crossed, is_strictly_within}
use Rattle.geom_core.specs.declared.placing.Place.{Place}
use Rattle.geom_core.specs.declared.placing.Place.TheVariants.{On, Within, Outside}

-- On an edge counts before within.
abbrev pub placed : Bool → Bool → Place
placed on within = if on then On else if within then Within else Outside

unfoldable pub place_of : Point → List Point → Place
place_of p ring = placed (is_on_ring p ring) (is_round p ring)

-- The same of the edges of a path.
unfoldable pub place_among : Point → List Segment → Place
place_among p path = placed (list_any (is_on p) path) (is_odd (count_by (is_crossed p) path))

-- On a ring of one of the holes, or else strictly within one.
unfoldable pub place_in_holes : Point → List (List Point) → Place
place_in_holes p holes = placed (list_any (is_on_ring p) holes) (list_any (is_strictly_within p) holes)

-- Whether a point is in an area, by its places in the shell and in the holes.
abbrev pub area_holds : Place → Place → Bool
area_holds On _ = true
area_holds Within Within = false
area_holds Within _ = true
area_holds Outside On = true
area_holds Outside _ = false
