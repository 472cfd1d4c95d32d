use Rattle.std.proofs.Common.{◌≡◌}
use Rattle.feature_overlay.proofs.tests.laid.Given as goal

abbrev pub invariant-loop-one : goal.invariant-loop-one
invariant-loop-one l = l.overlay.view.now.schema ≡ l.view.schema
