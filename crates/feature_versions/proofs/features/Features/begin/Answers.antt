use Rattle.std.proofs.Common.{refl}
use Rattle.wfs_model.specs.declared.change.Change.TheVariants.{Base}
use Rattle.feature_versions.specs.Held.{kept_in}
use Rattle.feature_versions.proofs.Holds.{begun_is, held_after}
use Rattle.feature_versions.proofs.features.Features.begin.Goals as goal

pub returns-clause-kept : goal.returns-clause-kept
returns-clause-kept c = rw (← c.self.view_is) (begun_is c.self.inside.layers.items c.self.inside.counters c.args.counters c.self.inside.stored.list c.self.inside.opening c.args.opening)

pub invariant_of-self : goal.invariant_of-self
invariant_of-self c =
    let layers = c.self.inside.layers.items in
    let stored = c.self.inside.stored.list in
    let may = rw (← c.self.view_is) at c.requires in
    held_after c.self.inside.schema layers layers (kept_in layers c.self.inside.counters stored c.self.inside.opening) (kept_in layers c.args.counters stored c.args.opening) (Base c.args.opening c.args.counters)
    c.self.invariant may tt (begun_is layers c.self.inside.counters c.args.counters stored c.self.inside.opening c.args.opening) refl c.self.invariant.typed c.self.invariant.short
