-- When two segments meet.
use Rattle.std.specs.Prelude.{ℤ, pos, negsuc, zero, suc, ◌-ℤ◌, ◌*ℤ◌, Bool, ◌&&◌, ◌||◌, int_lt, int_le}
use Rattle.std.specs.Int.{int_min, int_max}
use Rattle.std.specs.Ordering.{int_eq}
use Rattle.geom_core.specs.Plane.{Point}

pub record Segment : Type 0 where
  pub from : Point
  pub to : Point

-- 1 of a number above 0, -1 of one below 0, and 0 of 0.
abbrev pub sign_of : ℤ → ℤ
sign_of (pos zero) = pos 0
sign_of (pos (suc n)) = pos 1
sign_of (negsuc n) = negsuc 0

-- On which side of the line from a to b the point c lies: 1 on the left, -1 on the right, 0 on the line.
-- It is the sign of the cross product of b - a and c - a.
unfoldable pub sign : Point → Point → Point → ℤ
sign a b c = sign_of ((b.x -ℤ a.x) *ℤ (c.y -ℤ a.y) -ℤ (b.y -ℤ a.y) *ℤ (c.x -ℤ a.x))

-- A number lies from the lesser to the greater of two others, these included.
unfoldable pub is_between : ℤ → ℤ → ℤ → Bool
is_between z a b = int_le (int_min a b) z && int_le z (int_max a b)

-- A point lies within the bounds of a segment.
unfoldable pub is_beside : Point → Segment → Bool
is_beside p s = is_between p.x s.from.x s.to.x && is_between p.y s.from.y s.to.y

-- A point lies on a segment: within its bounds, and on its line.
unfoldable pub is_on : Point → Segment → Bool
is_on p s = is_beside p s && int_eq (sign s.from s.to p) (pos 0)

-- Two signs are opposite, and neither is 0.
unfoldable pub are_opposite : ℤ → ℤ → Bool
are_opposite s t = (int_lt s (pos 0) && int_lt (pos 0) t) || (int_lt (pos 0) s && int_lt t (pos 0))

-- The ends of each segment lie on different sides of the other's line.
unfoldable pub do_cross : Segment → Segment → Bool
do_cross s t =
    are_opposite (sign s.from s.to t.from) (sign s.from s.to t.to)
    && are_opposite (sign t.from t.to s.from) (sign t.from t.to s.to)

-- An end of one segment lies on the other.
unfoldable pub do_touch : Segment → Segment → Bool
do_touch s t = (is_on s.from t || is_on s.to t) || (is_on t.from s || is_on t.to s)

-- Segments meet where an end of one lies on the other, or where they cross. That they then share a point is told by no law.
unfoldable pub do_meet : Segment → Segment → Bool
do_meet s t = do_touch s t || do_cross s t
