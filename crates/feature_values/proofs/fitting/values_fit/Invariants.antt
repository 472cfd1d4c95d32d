use Rattle.std.proofs.Common.{◌≡◌, drop}
use Rattle.feature_values.specs.Fits.{values_fit}
use Rattle.feature_values.proofs.fitting.values_fit.Given as goal

abbrev pub invariant-loop-i : goal.invariant-loop-i
invariant-loop-i l = values_fit (drop l.i l.properties) (drop l.i l.values) ≡ values_fit l.properties l.values
