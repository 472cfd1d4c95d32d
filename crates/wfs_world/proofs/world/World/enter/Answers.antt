use Rattle.std.proofs.Common.{refl}
use Rattle.wfs_world.specs.declared.event.Event.TheVariants.{Enter}
use Rattle.wfs_world.proofs.Answering.{runs_on}
use Rattle.wfs_world.proofs.world.World.enter.Goals as goal

pub invariant_of-self-2 : goal.invariant_of-self-2
invariant_of-self-2 c =
    runs_on c.self.inside.scene c.enter.new.self (Enter c.args.seat) c.self.inside.machine c.enter.new.machine c.self.invariant tt (c.if-not-may_enter.ensures.0 refl) c.in_ok-enter.ensures.ok c.in_ok-enter.ensures.schema (λ up. c.in_ok-enter.ensures.state)
