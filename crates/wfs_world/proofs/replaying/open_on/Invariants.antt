use Rattle.std.proofs.Common.{◌≡◌, take}
use Rattle.wfs_model.specs.State.{durable}
use Rattle.wfs_world.specs.Scene.{kept_by}
use Rattle.wfs_world.proofs.replaying.open_on.Given as goal

abbrev pub invariant-loop-change : goal.invariant-loop-change
invariant-loop-change l = record {
  schema : l.machine.schema ≡ l.schema;
  kept : durable l.machine.state ≡ kept_by l.schema (take l.change-index l.changes);
}
