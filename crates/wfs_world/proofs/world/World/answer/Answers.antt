use Rattle.std.proofs.Common.{ap, ◌∙◌}
use Rattle.wfs_world.specs.Scene.{Scene}
use Rattle.wfs_world.proofs.Answering.{steps_on}
use Rattle.wfs_world.proofs.world.World.answer.Goals as goal

pub step_all-requires : goal.step_all-requires
step_all-requires c =
    steps_on c.self.inside.scene c.in_ok-machine.machine c.schema.result.now c.found.result.now c.number.result c.entries-entries.result.now c.args.front c.self.invariant.well (ap (λ (w : Scene). w.is_up) c.self.view_is ∙ c.requires.up) c.in_ok-machine.ensures
    c.schema.ensures c.found.ensures c.number.ensures c.entries-entries.ensures
