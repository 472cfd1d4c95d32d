use Rattle.std.proofs.Common.{◌≤◌, length, ap, arith}
use Rattle.wfs_model.specs.declared.change.Change.TheVariants.{Rows}
use Rattle.wfs_model.specs.State.{Durable}
use Rattle.feature_versions.specs.Held.{most, kept_in}
use Rattle.feature_versions.specs.Types.{features_of}
use Rattle.feature_versions.proofs.Holds.{rows_within, rooms_in, rows_are, played_short, held_after}
use Rattle.feature_versions.proofs.features.Features.play.Goals as goal

pub play_rows-requires-clause-within : goal.play_rows-requires-clause-within
play_rows-requires-clause-within c =
    let may = rw (← c.self.view_is) at c.requires.playable in
    let layers = c.self.inside.layers.items in
    rows_within c.self.inside.schema (kept_in layers c.self.inside.counters c.self.inside.stored.list c.self.inside.opening) (length layers) c.args.parts c.self.invariant.types may

pub play_rows-requires-clause-room : goal.play_rows-requires-clause-room
play_rows-requires-clause-room c =
    let reserved = rw (← c.self.view_is) at c.requires.reserved in
    rooms_in c.self.inside.layers.items c.self.inside.stored.spare c.args.parts reserved

pub returns-clause-kept : goal.returns-clause-kept
returns-clause-kept c =
    let kept : Durable = kept_in c.self.inside.layers.items c.self.inside.counters c.self.inside.stored.list c.self.inside.opening in
    let now : Durable = kept_in c.play_rows.new.layers.items c.play_rows.new.counters c.self.inside.stored.list c.self.inside.opening in
    rw (← c.self.view_is) (rows_are kept now c.args.parts (c.play_rows.ensures.played kept))

pub invariant_of-self : goal.invariant_of-self
invariant_of-self c =
    let may = rw (← c.self.view_is) at c.requires.playable in
    let reserved = rw (← c.self.view_is) at c.requires.reserved in
    let kept : Durable = kept_in c.self.inside.layers.items c.self.inside.counters c.self.inside.stored.list c.self.inside.opening in
    let now : Durable = kept_in c.play_rows.new.layers.items c.play_rows.new.counters c.self.inside.stored.list c.self.inside.opening in
    let short : length (features_of c.play_rows.new.layers.items) ≤ most = (
    let features = ap (λ (k : Durable). length k.features) (c.play_rows.ensures.played kept) in
    let few = played_short kept c.args.parts in
    omega (arith, features, few, reserved.count, c.self.invariant.short)
    ) in
    held_after c.self.inside.schema c.self.inside.layers.items c.play_rows.new.layers.items kept now (Rows c.args.parts)
    c.self.invariant may tt (rows_are kept now c.args.parts (c.play_rows.ensures.played kept)) c.play_rows.ensures.length c.play_rows.ensures.typed short
