use Rattle.std.proofs.Common.{◌≡◌, List, ◌∙◌, subst}
use Rattle.feature_versions.specs.Layer.{Layered}
use Rattle.feature_versions.specs.Types.{AreAlike}
use Rattle.feature_versions.proofs.Alike.{kept_same, held_same}
use Rattle.feature_versions.proofs.features.Features.copy.Goals as goal

pub invariant_of-result : goal.invariant_of-result
invariant_of-result c =
    let old = c.self.inside.layers.items in
    let new = c.in_ok-layers.layers.items in
    let alike : AreAlike old new = subst (λ (ls : List Layered). AreAlike ls new) c.as_slice.ensures.value c.in_ok-layers.ensures in
    let counters : c.of-counters.result ≡ c.self.inside.counters = c.of-counters.ensures ∙ c.in_ok-from_slice.ensures.items ∙ c.items.ensures in
    let same = kept_same old new c.self.inside.counters c.of-counters.result c.self.inside.stored.list c.in_ok-stored.stored.list c.self.inside.opening alike counters c.in_ok-stored.ensures in
    held_same c.self.inside.schema c.in_ok-schema.schema old new _ _ c.self.invariant c.in_ok-schema.ensures alike same

pub returns-clause-kept : goal.returns-clause-kept
returns-clause-kept c =
    let old = c.self.inside.layers.items in
    let new = c.in_ok-layers.layers.items in
    let alike : AreAlike old new = subst (λ (ls : List Layered). AreAlike ls new) c.as_slice.ensures.value c.in_ok-layers.ensures in
    let counters : c.of-counters.result ≡ c.self.inside.counters = c.of-counters.ensures ∙ c.in_ok-from_slice.ensures.items ∙ c.items.ensures in
    rw (← c.self.view_is) (kept_same old new c.self.inside.counters c.of-counters.result c.self.inside.stored.list c.in_ok-stored.stored.list c.self.inside.opening alike counters c.in_ok-stored.ensures)
