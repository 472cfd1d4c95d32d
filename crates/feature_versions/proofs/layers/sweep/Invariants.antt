use Rattle.feature_versions.specs.Types.{AreAlike}
use Rattle.feature_versions.proofs.layers.sweep.Given as goal

abbrev pub invariant-loop-kind : goal.invariant-loop-kind
invariant-loop-kind l = AreAlike l.initial.layers.items l.layers.items
