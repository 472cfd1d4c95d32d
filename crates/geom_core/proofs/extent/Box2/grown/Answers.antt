use Rattle.geom_core.proofs.Boxes.{IsUpright-grown}
use Rattle.geom_core.proofs.extent.Box2.grown.Goals as goal

pub invariant_of-result : goal.invariant_of-result
invariant_of-result c = rw (c.low_corner.ensures, c.high_corner.ensures) (IsUpright-grown (record { low = c.self.inside.low; high = c.self.inside.high }) c.args.p c.self.invariant)
