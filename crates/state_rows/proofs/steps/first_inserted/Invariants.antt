use Rattle.std.proofs.Common.{◌≡◌}
use Rattle.state_rows.proofs.steps.first_inserted.Given as goal

abbrev pub invariant-loop-row : goal.invariant-loop-row
invariant-loop-row l = l.state.schema ≡ l.schema
