-- A ring's edges in blocks of 64 that follow one another, and how a block's box lies to a point.
use Rattle.std.specs.Prelude.{◌≡◌, ℕ, ◌*◌, ◌<◌, List, length, take, drop, get_or, Bool, ◌||◌, int_lt}
use Rattle.geom_core.specs.Plane.{Point, Bounds, least_box}

-- The points of the block of this number: the last is the next block's first.
abbrev pub block_at : ℕ → List Point → List Point
block_at k ring = take 65 (drop (64 * k) ring)

-- Each block's box stands at the block's number.
pub record AreBoxes (boxes : List Bounds) (ring : List Point) : Type 0 where
  pub each : (k : ℕ) (d : Bounds) → 64 * k < length ring → get_or boxes k d ≡ least_box (block_at k ring)

-- The box lies to lesser x of a point, or above it, or below it, so that the ray from the point to greater x
-- meets none of the box.
abbrev pub is_clear : Point → Bounds → Bool
is_clear p b = int_lt b.high.x p.x || (int_lt p.y b.low.y || int_lt b.high.y p.y)
