-- When geometries lie within a distance of each other (OGC 09-026r2, section 7.8: DWithin and Beyond). That the
-- distance itself counts as within is a decision of this project.
use Rattle.std.specs.Prelude.{ℕ, ◌*◌, ℤ, pos, ◌+ℤ◌, ◌-ℤ◌, ◌*ℤ◌, Bool, ◌&&◌, ◌||◌, int_lt, int_le, List}
use Rattle.std.specs.List.{list_any}
use Rattle.geom_core.specs.Plane.{Point}
use Rattle.geom_core.specs.Segments.{Segment}
use Rattle.geom_core.specs.declared.geometry.Geometry.{Geometry}
use Rattle.spatial_tests.specs.Sharing.{segments_of, do_intersect}

-- The way from one point to another, as a vector.
abbrev pub way : Point → Point → Point
way a b = record { x = b.x -ℤ a.x; y = b.y -ℤ a.y }

abbrev pub dot : Point → Point → ℤ
dot v w = v.x *ℤ w.x +ℤ v.y *ℤ w.y

abbrev pub cross : Point → Point → ℤ
cross v w = v.x *ℤ w.y -ℤ v.y *ℤ w.x

-- Two points lie within a distance of each other: the square of their way is at most its square.
unfoldable pub are_close : ℕ → Point → Point → Bool
are_close d p q = int_le (dot (way p q) (way p q)) (pos (d * d))

-- A point lies before the first end of a segment, or level with it, as the segment goes.
unfoldable pub is_before : Point → Segment → Bool
is_before p s = int_le (dot (way s.from p) (way s.from s.to)) (pos 0)

-- It lies behind the second end, or level with it.
unfoldable pub is_behind : Point → Segment → Bool
is_behind p s = int_le (dot (way s.from s.to) (way s.from s.to)) (dot (way s.from p) (way s.from s.to))

-- It lies between the two ends.
unfoldable pub is_abreast : Point → Segment → Bool
is_abreast p s =
    int_lt (pos 0) (dot (way s.from p) (way s.from s.to))
    && int_lt (dot (way s.from p) (way s.from s.to)) (dot (way s.from s.to) (way s.from s.to))

-- The line through a segment's ends passes within a distance of a point: the cross product is the length of
-- the segment times the length of the perpendicular.
unfoldable pub is_line_close : ℕ → Point → Segment → Bool
is_line_close d p s =
    int_le
    (cross (way s.from p) (way s.from s.to) *ℤ cross (way s.from p) (way s.from s.to))
    (pos (d * d) *ℤ dot (way s.from s.to) (way s.from s.to))

-- A point is near a segment: by the segment's first end, by its second, or by the perpendicular between them.
unfoldable pub is_near : ℕ → Point → Segment → Bool
is_near d p s =
    (is_before p s && are_close d p s.from)
    || ((is_behind p s && are_close d p s.to) || (is_abreast p s && is_line_close d p s))

-- An end of one segment is near the other.
unfoldable pub are_near : ℕ → Segment → Segment → Bool
are_near d s t = (is_near d s.from t || is_near d s.to t) || (is_near d t.from s || is_near d t.to s)

-- A segment and one of a list.
abbrev pub near_some : ℕ → Segment → List Segment → Bool
near_some d s ts = list_any (are_near d s) ts

-- A segment of the one list and one of the other.
abbrev pub are_any_near : ℕ → List Segment → List Segment → Bool
are_any_near d ss ts = list_any (λ s. near_some d s ts) ss

-- Geometries lie within a distance where they intersect, or an end of a segment of one is near a segment of
-- the other.
unfoldable pub is_within_distance : Geometry → Geometry → ℕ → Bool
is_within_distance a b d = do_intersect a b || are_any_near d (segments_of a) (segments_of b)
