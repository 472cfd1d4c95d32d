-- A compaction of the fields is one of what they are seen as.
use Rattle.std.proofs.Common.{◌∙◌, ap}
use Rattle.wfs_store.specs.Held.{Held}
use Rattle.wfs_store.proofs.store.Store.compact.Goals as goal

pub make_shorter-requires-clause-empty : goal.make_shorter-requires-clause-empty
make_shorter-requires-clause-empty g c = ap (λ (h : Held g.row.D.Denot). h.entries) c.self.view_is ∙ c.requires

pub make_shorter-requires-clause-store : goal.make_shorter-requires-clause-store
make_shorter-requires-clause-store g c = (c.self.inside.bodies, c.self.invariant)

pub invariant_of-self : goal.invariant_of-self
invariant_of-self g c = c.make_shorter.ensures.store c.self.inside.bodies c.self.invariant

pub returns : goal.returns
returns g c = rw (← c.self.view_is) (c.make_shorter.ensures.compacted c.self.inside.bodies c.self.inside.tally c.self.invariant)
