use Rattle.std.proofs.Common.{◌≡◌, take}
use Rattle.std.specs.Prelude.{flat_map}
use Rattle.feature_versions.specs.Near.{boxes_of}
use Rattle.feature_versions.specs.Rows.{live}
use Rattle.feature_versions.proofs.layer.all_boxes.Given as goal

abbrev pub invariant-loop-row : goal.invariant-loop-row
invariant-loop-row l = l.boxes.items ≡ flat_map boxes_of (live (take l.row-index l.rows))
