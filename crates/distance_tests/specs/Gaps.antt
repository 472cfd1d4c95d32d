-- How far boxes lie apart.
use Rattle.std.specs.Prelude.{ℕ, ◌+◌, ◌*◌, ℤ, pos, ◌-ℤ◌, ◌+ℤ◌, unsigned_abs, Bool, ◌&&◌, ◌||◌, nat_lt, int_lt}
use Rattle.std.specs.Int.{int_min, int_max}
use Rattle.geom_core.specs.Plane.{Bounds}
use Rattle.geom_core.specs.Segments.{Segment}
use Rattle.distance_tests.specs.declared.gaps.Reach.{Reach}

-- How far two spans lie apart, of which the second begins so far after the first ends, or the first so far after the second: 0 where they
-- share a number.
abbrev pub gap : ℤ → ℤ → ℕ
gap after before = unsigned_abs (int_max (int_max after before) (pos 0))

abbrev pub gap_x : Bounds → Bounds → ℕ
gap_x a b = gap (b.low.x -ℤ a.high.x) (a.low.x -ℤ b.high.x)

abbrev pub gap_y : Bounds → Bounds → ℕ
gap_y a b = gap (b.low.y -ℤ a.high.y) (a.low.y -ℤ b.high.y)

-- Two boxes lie farther apart than a distance: the square of the way between them is above its square.
unfoldable pub are_farther : ℕ → Bounds → Bounds → Bool
are_farther d a b = nat_lt (d * d) (gap_x a b * gap_x a b + gap_y a b * gap_y a b)

-- The box of a segment, grown by a distance on each side.
abbrev pub reach_of : ℕ → Segment → Reach
reach_of d s = record {
  west = int_min s.from.x s.to.x -ℤ pos d;
  east = int_max s.from.x s.to.x +ℤ pos d;
  south = int_min s.from.y s.to.y -ℤ pos d;
  north = int_max s.from.y s.to.y +ℤ pos d;
}

-- Two numbers are both above or both below a span.
abbrev pub are_aside : ℤ → ℤ → ℤ → ℤ → Bool
are_aside low high e f = (int_lt high e && int_lt high f) || (int_lt e low && int_lt f low)

-- A segment lies beyond a side of it.
unfoldable pub is_beyond : Reach → Segment → Bool
is_beyond r s = are_aside r.west r.east s.from.x s.to.x || are_aside r.south r.north s.from.y s.to.y
