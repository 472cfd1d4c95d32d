use Rattle.std.proofs.Common.{◌≡◌}
use Rattle.machine_rows.proofs.world.first_of.Given as goal

abbrev pub invariant-loop-i : goal.invariant-loop-i
invariant-loop-i l = l.world.schema ≡ l.schema
