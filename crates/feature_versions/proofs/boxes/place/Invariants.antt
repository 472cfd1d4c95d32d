use Rattle.std.proofs.Common.{◌+◌, ◌≤◌, List, ◌++◌, take, All}
use Rattle.std.specs.Prelude.{flat_map}
use Rattle.std.specs.List.{sum_by}
use Rattle.grid_index.specs.Gridded.{pairs_at, room_at, IsGridOf}
use Rattle.grid_index.specs.Near.{Placed}
use Rattle.grid_index.specs.Places.{Place, taking}
use Rattle.feature_versions.specs.Near.{boxes_in}
use Rattle.feature_versions.specs.Placed.{placed, IsBoxedIn}
use Rattle.feature_versions.proofs.boxes.place.Given as goal

abbrev pub invariant-loop-value : goal.invariant-loop-value
invariant-loop-value l = record {
  pairs : (pairs : List Placed) → IsGridOf (pairs_at l.fn.grid) pairs → IsGridOf (pairs_at l.grid) (pairs ++ placed l.feature.id (flat_map boxes_in (take l.value-index l.value-items)));
  room : (place : Place) → room_at l.fn.grid.room place ≤ room_at l.grid.room place + sum_by (taking place) (flat_map boxes_in (take l.value-index l.value-items));
  boxed : All IsBoxedIn (take l.value-index l.value-items);
}
