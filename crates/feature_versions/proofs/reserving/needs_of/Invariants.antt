use Rattle.std.proofs.Common.{◌≡◌, length, take}
use Rattle.feature_versions.specs.Needs.{AreNeeds}
use Rattle.feature_versions.specs.Reserved.{all_put}
use Rattle.feature_versions.proofs.reserving.needs_of.Given as goal

abbrev pub invariant-loop-part : goal.invariant-loop-part
invariant-loop-part l = record {
  needs : AreNeeds (all_put (take l.part-index l.parts)) l.needs.items;
  types : length l.needs.items ≡ l.types;
}
