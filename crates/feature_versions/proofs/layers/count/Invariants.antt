use Rattle.std.proofs.Common.{◌≡◌, length, take}
use Rattle.feature_versions.specs.Types.{features_of}
use Rattle.feature_versions.proofs.layers.count.Given as goal

abbrev pub invariant-loop-layer : goal.invariant-loop-layer
invariant-loop-layer l = l.all ≡ length (features_of (take l.layer-index l.layers))
