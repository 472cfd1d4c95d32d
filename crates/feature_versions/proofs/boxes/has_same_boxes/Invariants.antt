use Rattle.std.proofs.Common.{◌≡◌, take, All}
use Rattle.std.specs.Prelude.{flat_map}
use Rattle.feature_versions.specs.Near.{boxes_in}
use Rattle.feature_versions.specs.Placed.{IsBoxedIn}
use Rattle.feature_versions.proofs.boxes.has_same_boxes.Given as goal

abbrev pub invariant-loop-i : goal.invariant-loop-i
invariant-loop-i l = record {
  same : flat_map boxes_in (take l.i l.olds) ≡ flat_map boxes_in (take l.i l.news);
  boxed : All IsBoxedIn (take l.i l.news);
}
