-- How often a pair of a feature and a box stands among others.
use Rattle.std.specs.Prelude.{ℕ, Bool, ◌&&◌, List, cond}
use Rattle.std.specs.List.{count_by}
use Rattle.std.specs.Ordering.{int_eq}
use Rattle.geom_core.specs.Plane.{Point}
use Rattle.grid_index.specs.Near.{Placed, is_same}

abbrev pub one_if : Bool → ℕ
one_if b = cond b 1 0

abbrev pub is_point : Point → Point → Bool
is_point a b = int_eq a.x b.x && int_eq a.y b.y

abbrev pub is_pair : Placed → Placed → Bool
is_pair p q = is_same p.0 q.0 && (is_point p.1.low q.1.low && is_point p.1.high q.1.high)

abbrev pub times : Placed → List Placed → ℕ
times p pairs = count_by (is_pair p) pairs
