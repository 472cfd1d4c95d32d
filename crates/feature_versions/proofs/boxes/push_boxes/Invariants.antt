use Rattle.std.proofs.Common.{◌≡◌, ◌++◌, take}
use Rattle.std.specs.Prelude.{flat_map}
use Rattle.feature_versions.specs.Near.{boxes_in}
use Rattle.feature_versions.proofs.boxes.push_boxes.Given as goal

abbrev pub invariant-loop-value : goal.invariant-loop-value
invariant-loop-value l = l.boxes.items ≡ l.fn.boxes.items ++ flat_map boxes_in (take l.value-index l.value-items)
