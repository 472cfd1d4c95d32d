use Rattle.std.proofs.Common.{◌≡◌}
use Rattle.machine_rows.proofs.machine.first_of.Given as goal

abbrev pub invariant-loop-i : goal.invariant-loop-i
invariant-loop-i l = l.machine.schema ≡ l.schema
