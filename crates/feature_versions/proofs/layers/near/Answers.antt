use Rattle.std.proofs.Common.{◌≡◌, ◌≤◌, ℕ, List, length, sym, subst, arith}
use Rattle.std.proofs.lemmas.Result.{IfOk-weaker}
use Rattle.feature_values.specs.declared.feature.Rid.{Rid}
use Rattle.fes_filter.specs.View.{HasAllNear}
use Rattle.feature_versions.specs.Near.{most_near}
use Rattle.feature_versions.specs.Types.{features_of}
use Rattle.feature_versions.proofs.Typed.{get_some, get_none, at_some, at_none}
use Rattle.feature_versions.proofs.Nearby.{near_whole, none_near, near_few}
use Rattle.feature_versions.proofs.layers.near.Goals as goal

pub returns-in-None-clause-whole : goal.returns-in-None-clause-whole
returns-in-None-clause-whole c =
    none_near c.args.kind c.args.area.now c.of.result c.args.layers.now c.requires (at_none c.args.layers.now c.args.kind (get_none c.args.layers.now c.args.kind c.in-None.ensures.lookup.3))

pub returns-in-Some-clause-whole : goal.returns-in-Some-clause-whole
returns-in-Some-clause-whole c =
    let layer = c.in-Some.layer.now in
    let some = get_some c.args.layers.now c.args.kind layer c.in-Some.ensures.lookup.3.0 c.in-Some.ensures.lookup.1 in
    let kind : layer.kind ≡ c.args.kind = rw (sym c.in-Some.ensures.lookup.1) at (c.requires c.args.kind layer c.in-Some.ensures.lookup.3.0).is in
    IfOk-weaker c.near.result (λ ids. HasAllNear layer.kind c.args.area.now layer.features ids) (λ ids. HasAllNear c.args.kind c.args.area.now (features_of c.args.layers.now) ids)
    (λ ids near. near_whole c.args.kind c.args.area.now ids c.args.layers.now layer c.requires (at_some c.args.layers.now c.args.kind layer some) kind near) c.near.ensures.whole

pub returns-in-Some-clause-few : goal.returns-in-Some-clause-few
returns-in-Some-clause-few c =
    let layer = c.in-Some.layer.now in
    let some = get_some c.args.layers.now c.args.kind layer c.in-Some.ensures.lookup.3.0 c.in-Some.ensures.lookup.1 in
    let kind : layer.kind ≡ c.args.kind = rw (sym c.in-Some.ensures.lookup.1) at (c.requires c.args.kind layer c.in-Some.ensures.lookup.3.0).is in
    let within = near_few c.args.kind c.args.area.now c.args.layers.now layer (at_some c.args.layers.now c.args.kind layer some) in
    IfOk-weaker c.near.result (λ (ids : List Rid). length ids ≤ most_near layer.features layer.kind c.args.area.now) (λ (ids : List Rid). length ids ≤ most_near (features_of c.args.layers.now) c.args.kind c.args.area.now)
    (λ ids few. (let less : length ids ≤ most_near layer.features c.args.kind c.args.area.now = subst (λ (k : ℕ). length ids ≤ most_near layer.features k c.args.area.now) kind few in omega (arith, less, within))) c.near.ensures.few
