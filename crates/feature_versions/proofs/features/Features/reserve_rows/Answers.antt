use Rattle.std.proofs.Common.{◌≡◌, ◌+◌, ◌≤◌, List, length, refl, sym, ap, ◌∙◌, subst, arith}
use Rattle.wfs_model.specs.declared.change.Part.{Part}
use Rattle.feature_versions.specs.declared.reserving.Need.{Need}
use Rattle.feature_versions.specs.Held.{most, kept_in}
use Rattle.feature_versions.specs.Needs.{AreNeeds, AreMet}
use Rattle.feature_versions.specs.Reserved.{all_put}
use Rattle.feature_versions.specs.Types.{features_of}
use Rattle.feature_versions.proofs.Alike.{kept_same, held_same, others_stay, rows_reserved, on_ok}
use Rattle.feature_versions.proofs.features.Features.reserve_rows.Goals as goal

pub invariant_of-self : goal.invariant_of-self
invariant_of-self c =
    let old = c.self.inside.layers.items in
    let new = c.reserve_all.new.layers.items in
    let counters = c.self.inside.counters in
    let stored = c.self.inside.stored.list in
    let opening = c.self.inside.opening in
    held_same c.self.inside.schema c.self.inside.schema old new (kept_in old counters stored opening) (kept_in new counters stored opening) c.self.invariant refl c.reserve_all.ensures.same
    (kept_same old new counters counters stored stored opening c.reserve_all.ensures.same refl refl)

pub returns-clause-reserved : goal.returns-clause-reserved
returns-clause-reserved c =
    let old = c.self.inside.layers.items in
    let new = c.reserve_all.new.layers.items in
    let needs = c.in_ok-needs.needs.items in
    let parts : List Part = c.args.parts.now in
    let many : length (features_of old) ≡ c.count.result = sym (c.count.ensures ∙ ap (λ h. length h.kept.features) (sym c.self.view_is)) in
    let seen : length c.items-parts.result.now ≡ length parts = ap length c.items-parts.ensures in
    let fits : length (features_of old) + length parts ≤ most = omega (arith, many, seen, c.if-count-parts.false) in
    let needed : AreNeeds (all_put parts) needs = subst (λ (ps : List Part). AreNeeds (all_put ps) needs) c.items-parts.ensures c.in_ok-needs.ensures.needs in
    let count : length needs ≡ length old = omega (arith, c.in_ok-needs.ensures.length, c.len.ensures, c.self.inside.layers.ok) in
    on_ok c.reserve_all.result (λ met. rows_reserved old new c.self.inside.stored.spare parts needs (length needs) c.reserve_all.ensures.same fits needed count (subst (λ (ns : List Need). AreMet (length ns) ns new) c.as_slice.ensures.value met) refl) c.reserve_all.ensures.met

pub returns-clause-others : goal.returns-clause-others
returns-clause-others c = λ other is.
    let was = rw (← c.self.view_is) at is in
    others_stay c.self.inside.layers.items c.reserve_all.new.layers.items c.self.inside.stored.spare other c.reserve_all.ensures.same c.reserve_all.ensures.roomier was

pub returns-clause-kept : goal.returns-clause-kept
returns-clause-kept c =
    rw (← c.self.view_is)
    (kept_same c.self.inside.layers.items c.reserve_all.new.layers.items c.self.inside.counters c.self.inside.counters c.self.inside.stored.list c.self.inside.stored.list c.self.inside.opening c.reserve_all.ensures.same refl refl)
