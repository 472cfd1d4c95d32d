-- A step of the fields is a step of what they are seen as.
use Rattle.std.proofs.Common.{ap}
use Rattle.wfs_store.specs.Held.{Held}
use Rattle.wfs_store.proofs.store.Store.step.Goals as goal

pub take_step-requires-clause-fitting : goal.take_step-requires-clause-fitting
take_step-requires-clause-fitting g c = let same = ap (λ (h : Held g.row.D.Denot). h.schema) c.self.view_is in rw same c.requires.fitting

pub take_step-requires-clause-texts : goal.take_step-requires-clause-texts
take_step-requires-clause-texts g c = let same = ap (λ (h : Held g.row.D.Denot). h.schema) c.self.view_is in rw same c.requires.texts

pub take_step-requires-clause-store : goal.take_step-requires-clause-store
take_step-requires-clause-store g c = (c.self.inside.bodies, c.self.inside.side, c.self.invariant)

pub invariant_of-self : goal.invariant_of-self
invariant_of-self g c = c.take_step.ensures.store c.self.inside.bodies c.self.inside.side c.self.invariant

pub returns : goal.returns
returns g c = rw (← c.self.view_is) (c.take_step.ensures.step c.self.inside.bodies c.self.inside.side c.self.invariant)
