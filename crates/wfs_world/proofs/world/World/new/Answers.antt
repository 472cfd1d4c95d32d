use Rattle.wfs_world.proofs.Answering.{begins}
use Rattle.wfs_world.proofs.world.World.new.Goals as goal

pub invariant_of-result : goal.invariant_of-result
invariant_of-result c = begins _ _ _ _ _ c.in_ok-scene.ensures c.in_ok-machine.ensures c.in_ok-copy.ensures
