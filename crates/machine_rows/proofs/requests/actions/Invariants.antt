use Rattle.std.specs.Prelude.{All}
use Rattle.wfs_model.specs.OfSchema.{IsActionOf}
use Rattle.machine_rows.proofs.requests.actions.Given as goal

abbrev pub invariant-loop-deed : goal.invariant-loop-deed
invariant-loop-deed l = All (IsActionOf l.schema) l.actions.items
