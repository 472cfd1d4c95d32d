use Rattle.std.proofs.Common.{◌≡◌, ℕ, ◌<◌, get_or}
use Rattle.geom_core.specs.Plane.{Bounds, least_box}
use Rattle.geom_core.specs.Blocks.{block_at}
use Rattle.geom_core.proofs.blocks.boxes_of.Given as goal

abbrev pub invariant-loop-number : goal.invariant-loop-number
invariant-loop-number l = (k : ℕ) (d : Bounds) → k < l.number → get_or l.boxes k d ≡ least_box (block_at k l.ring)
