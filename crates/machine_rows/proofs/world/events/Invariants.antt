use Rattle.std.proofs.Common.{All}
use Rattle.wfs_world.specs.Events.{IsEventOf}
use Rattle.machine_rows.proofs.world.events.Given as goal

abbrev pub invariant-loop-does : goal.invariant-loop-does
invariant-loop-does l = All (IsEventOf l.schema) l.events.items
