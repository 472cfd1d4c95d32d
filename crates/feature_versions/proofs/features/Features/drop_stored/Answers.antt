use Rattle.std.proofs.Common.{refl}
use Rattle.wfs_model.specs.declared.change.Change.TheVariants.{Dropped}
use Rattle.feature_versions.specs.Held.{kept_in}
use Rattle.feature_versions.proofs.Holds.{is_dropped, dropped_is, held_after}
use Rattle.feature_versions.proofs.features.Features.drop_stored.Goals as goal

pub returns-clause-kept : goal.returns-clause-kept
returns-clause-kept c =
    let may = rw (← c.self.view_is) at c.requires in
    let layers = c.self.inside.layers.items in
    let now = is_dropped c.self.inside.schema (kept_in layers c.self.inside.counters c.self.inside.stored.list c.self.inside.opening) c.args.id c.drop_query.new.self.list c.drop_query.result may c.drop_query.ensures.value in
    rw (← c.self.view_is) (dropped_is layers c.self.inside.counters c.self.inside.stored.list c.drop_query.new.self.list c.args.id c.self.inside.opening now)

pub invariant_of-self : goal.invariant_of-self
invariant_of-self c =
    let layers = c.self.inside.layers.items in
    let may = rw (← c.self.view_is) at c.requires in
    let now = is_dropped c.self.inside.schema (kept_in layers c.self.inside.counters c.self.inside.stored.list c.self.inside.opening) c.args.id c.drop_query.new.self.list c.drop_query.result may c.drop_query.ensures.value in
    held_after c.self.inside.schema layers layers (kept_in layers c.self.inside.counters c.self.inside.stored.list c.self.inside.opening) (kept_in layers c.self.inside.counters c.drop_query.new.self.list c.self.inside.opening) (Dropped c.args.id)
    c.self.invariant may tt (dropped_is layers c.self.inside.counters c.self.inside.stored.list c.drop_query.new.self.list c.args.id c.self.inside.opening now) refl c.self.invariant.typed c.self.invariant.short
