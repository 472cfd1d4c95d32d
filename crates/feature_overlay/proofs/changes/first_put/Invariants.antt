use Rattle.std.proofs.Common.{◌≡◌}
use Rattle.feature_overlay.specs.Changed.{first_put}
use Rattle.feature_overlay.proofs.changes.first_put.Given as goal

abbrev pub invariant-loop-change : goal.invariant-loop-change
invariant-loop-change l = first_put l.change-iterator ≡ first_put l.fn.changes
