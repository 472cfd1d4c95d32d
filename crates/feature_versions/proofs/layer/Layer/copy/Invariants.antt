use Rattle.std.proofs.Common.{◌≡◌, ◌≤◌, length, take, drop}
use Rattle.std.specs.List.{sum_by}
use Rattle.grid_index.specs.Gridded.{room_at}
use Rattle.grid_index.specs.Places.{Place}
use Rattle.feature_versions.specs.Placed.{taken_by}
use Rattle.feature_versions.specs.Rows.{live}
use Rattle.feature_versions.proofs.layer.Layer.copy.Given as goal

abbrev pub invariant-loop-row : goal.invariant-loop-row
invariant-loop-row l = record {
  kind : l.layer.kind ≡ l.self.kind;
  features : l.layer.features ≡ live (take l.row-index l.rows);
  rows : length (live (drop l.row-index l.rows)) ≤ l.layer.rows;
  places : (place : Place) → sum_by (taken_by place) (live (drop l.row-index l.rows)) ≤ room_at l.layer.places place;
}
