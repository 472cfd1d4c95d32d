use Rattle.std.proofs.Common.{◌≡◌, take, drop}
use Rattle.wfs_model.specs.History.{after_all}
use Rattle.wfs_world.specs.Kept.{AreSteps}
use Rattle.wfs_world.proofs.replaying.step_all.Given as goal

abbrev pub invariant-loop-entry : goal.invariant-loop-entry
invariant-loop-entry l = record {
  schema : l.machine.schema ≡ l.initial.machine.schema;
  state : l.machine.state ≡ after_all l.initial.machine.schema l.initial.machine.state (take l.entry-index l.entries);
  left : AreSteps l.initial.machine.schema (after_all l.initial.machine.schema l.initial.machine.state (take l.entry-index l.entries)) (drop l.entry-index l.entries);
}
