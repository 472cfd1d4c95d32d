use Rattle.geom_core.proofs.Boxes.{IsUpright-between}
use Rattle.geom_core.proofs.extent.Box2.between.Goals as goal

pub invariant_of-result : goal.invariant_of-result
invariant_of-result c = rw (c.low_corner.ensures, c.high_corner.ensures) (IsUpright-between c.args.a c.args.b)
