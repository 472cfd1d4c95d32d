use Rattle.std.proofs.Common.{◌≡◌, drop}
use Rattle.std.specs.Prelude.{slice_get}
use Rattle.feature_versions.specs.Types.{features_of}
use Rattle.feature_versions.proofs.layers.first_from.Given as goal

abbrev pub invariant-loop-at : goal.invariant-loop-at
invariant-loop-at l = slice_get (features_of (drop l.at l.layers)) 0 ≡ slice_get (features_of (drop l.kind l.layers)) 0
