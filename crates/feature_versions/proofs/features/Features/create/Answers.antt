use Rattle.std.proofs.Common.{refl}
use Rattle.wfs_model.specs.declared.change.Change.TheVariants.{Created}
use Rattle.wfs_model.specs.State.{Durable}
use Rattle.wfs_model.specs.Stored.{created}
use Rattle.wfs_model.proofs.Stepping.{created_all}
use Rattle.feature_versions.specs.Held.{kept_in}
use Rattle.feature_versions.proofs.Holds.{may_create, never_refused, created_is, held_after}
use Rattle.feature_versions.proofs.features.Features.create.Goals as goal

pub unreachable-requires : goal.unreachable-requires
unreachable-requires c =
    let may = rw (← c.self.view_is) at c.requires.playable in
    let reserved = rw (← c.self.view_is) at c.requires.reserved in
    let kept : Durable = kept_in c.self.inside.layers.items c.self.inside.counters c.self.inside.stored.list c.self.inside.opening in
    never_refused (created c.self.inside.stored.list c.args.queries) c.in-Err.field-0 (may_create c.self.inside.schema kept c.args.queries may) c.in-Err.ensures.value (c.in-Err.ensures.memory reserved)

pub returns-clause-kept : goal.returns-clause-kept
returns-clause-kept c =
    let now = created_all c.self.inside.stored.list c.args.queries c.create.new.self.list c.in-Ok.ensures.value in
    rw (← c.self.view_is) (created_is c.self.inside.layers.items c.self.inside.counters c.self.inside.stored.list c.args.queries c.create.new.self.list c.self.inside.opening now)

pub invariant_of-self : goal.invariant_of-self
invariant_of-self c =
    let layers = c.self.inside.layers.items in
    let may = rw (← c.self.view_is) at c.requires.playable in
    let asked = rw (← c.self.view_is) at c.requires.queries in
    let now = created_all c.self.inside.stored.list c.args.queries c.create.new.self.list c.in-Ok.ensures.value in
    held_after c.self.inside.schema layers layers (kept_in layers c.self.inside.counters c.self.inside.stored.list c.self.inside.opening) (kept_in layers c.self.inside.counters c.create.new.self.list c.self.inside.opening) (Created c.args.queries)
    c.self.invariant may asked (created_is layers c.self.inside.counters c.self.inside.stored.list c.args.queries c.create.new.self.list c.self.inside.opening now) refl c.self.invariant.typed c.self.invariant.short
