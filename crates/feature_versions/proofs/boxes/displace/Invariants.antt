use Rattle.std.proofs.Common.{List, ◌++◌, drop}
use Rattle.std.specs.Prelude.{flat_map}
use Rattle.grid_index.specs.Gridded.{pairs_at, HasNoLessRoom, IsGridOf}
use Rattle.grid_index.specs.Near.{Placed}
use Rattle.feature_versions.specs.Near.{boxes_in}
use Rattle.feature_versions.specs.Placed.{placed}
use Rattle.feature_versions.proofs.boxes.displace.Given as goal

abbrev pub invariant-loop-value : goal.invariant-loop-value
invariant-loop-value l = record {
  pairs : (pairs : List Placed) → IsGridOf (pairs_at l.fn.grid) (placed l.feature.id (flat_map boxes_in l.feature.values) ++ pairs) → IsGridOf (pairs_at l.grid) (placed l.feature.id (flat_map boxes_in (drop l.value-index l.value-items)) ++ pairs);
  room : HasNoLessRoom l.fn.grid.room l.grid.room;
}
