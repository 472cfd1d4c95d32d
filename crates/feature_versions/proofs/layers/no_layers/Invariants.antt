use Rattle.std.proofs.Common.{◌≡◌, [], length}
use Rattle.feature_versions.specs.Types.{features_of, AreTyped}
use Rattle.feature_versions.proofs.layers.no_layers.Given as goal

abbrev pub invariant-loop-place : goal.invariant-loop-place
invariant-loop-place l = record {
  typed : AreTyped l.layers.items;
  types : length l.layers.items ≡ l.place;
  features : features_of l.layers.items ≡ [];
}
