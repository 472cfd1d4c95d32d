use Rattle.std.proofs.Common.{◌≡◌}
use Rattle.store_rows.proofs.steps.are_told.Given as goal

abbrev pub invariant-loop-step : goal.invariant-loop-step
invariant-loop-step g l = l.store.schema ≡ l.schema
