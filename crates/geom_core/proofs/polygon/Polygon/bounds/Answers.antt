use Rattle.geom_core.proofs.Least.{IsLeastBox-area, area_in_box}
use Rattle.geom_core.proofs.polygon.Polygon.bounds.Goals as goal

pub returns-clause-least : goal.returns-clause-least
returns-clause-least c =
    rw (← c.self.view_is, c.bounds.ensures.value)
    (IsLeastBox-area (record { shell = c.self.inside.shell; holes = c.self.inside.holes.items }) c.bounds.ensures.some c.bounds.ensures.closed c.self.invariant.inside)

pub returns-clause-area : goal.returns-clause-area
returns-clause-area c =
    rw (← c.self.view_is, c.bounds.ensures.value)
    (λ p h. area_in_box p (record { shell = c.self.inside.shell; holes = c.self.inside.holes.items }) c.bounds.ensures.closed c.self.invariant.inside h)
