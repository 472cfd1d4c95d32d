use Rattle.std.proofs.Common.{refl}
use Rattle.wfs_world.specs.declared.event.Event.TheVariants.{Take}
use Rattle.wfs_world.proofs.Answering.{runs_same, taken_same}
use Rattle.wfs_world.proofs.world.World.take.Goals as goal

pub invariant_of-self : goal.invariant_of-self
invariant_of-self c =
    let may = c.if-not-may_take.ensures.0 refl in
    runs_same c.self.inside.scene c.take_first.new.self (Take c.args.seat) c.self.inside.machine c.self.invariant tt may c.take_first.ensures may.0 (taken_same c.self.inside.scene _)
