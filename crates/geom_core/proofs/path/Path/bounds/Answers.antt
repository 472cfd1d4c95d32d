use Rattle.geom_core.proofs.Least.{IsLeastBox-some}
use Rattle.geom_core.proofs.path.Path.bounds.Goals as goal

pub returns-clause-least : goal.returns-clause-least
returns-clause-least c =
    rw (← c.self.view_is, c.self.invariant.1) (IsLeastBox-some c.self.inside.positions.items c.self.invariant.0)
