-- What is near among the features of all types, from what is near among those of one.
use Rattle.std.proofs.Common.{◌≡◌, ℕ, ◌+◌, ◌<◌, ◌≤◌, Bool, List, [], ◌++◌, length, take, drop, filter, All, sym, ap, ◌∙◌, subst, length-append, arith}
use Rattle.std.specs.Prelude.{◌==◌, ◌≢◌, Contains, IsTrue}
use Rattle.std.proofs.lemmas.Bool.{and_parts}
use Rattle.std.proofs.lemmas.List.Elements.{All-nil, All-weaker, All-append, filter-append}
use Rattle.std.proofs.lemmas.Bool.Decides.{nat_tests}
use Rattle.geom_core.specs.Plane.{Bounds}
use Rattle.feature_values.specs.declared.feature.Feature.{Feature}
use Rattle.feature_values.specs.declared.feature.Rid.{Rid}
use Rattle.fes_filter.specs.View.{has_near, is_near, HasAllNear}
use Rattle.feature_versions.specs.Near.{is_found, most_near}
use Rattle.feature_versions.specs.Layer.{Layered}
use Rattle.feature_versions.specs.Types.{features_of, features_at, AreTyped}
use Rattle.feature_versions.proofs.Typed.{kinds_before, kinds_behind, features_around}

abbrev Listed : ℕ → Bounds → List Rid → Feature → Type 0
Listed kind area ids f = IsTrue (is_near kind area f) → Contains ids f.id

-- a feature of another type is not near
far : (kind : ℕ) (area : Bounds) (ids : List Rid) (f : Feature) → f.id.kind ≢ kind → Listed kind area ids f
far kind area ids f other near = absurd (let same = (and_parts (f.id.kind == kind) (has_near area f) near).0 in other (grind (arith, nat_tests, same)))

all_far : (kind : ℕ) (area : Bounds) (ids : List Rid) (layers : List Layered) → AreTyped layers → All (Listed kind area ids) (features_at kind layers) → HasAllNear kind area (features_of layers) ids
all_far kind area ids layers typed here =
    subst (All (Listed kind area ids)) (sym (features_around layers kind))
    (All-append (Listed kind area ids) (features_of (take kind layers)) (features_at kind layers ++ features_of (drop (kind + 1) layers))
    (All-weaker (λ (f : Feature). f.id.kind < kind) (Listed kind area ids) (λ f lt. far kind area ids f (omega (arith, lt))) (features_of (take kind layers)) (kinds_before layers kind typed))
    (All-append (Listed kind area ids) (features_at kind layers) (features_of (drop (kind + 1) layers)) here
    (All-weaker (λ (f : Feature). kind < f.id.kind) (Listed kind area ids) (λ f lt. far kind area ids f (omega (arith, lt))) (features_of (drop (kind + 1) layers)) (kinds_behind layers kind typed))))

pub near_whole : (kind : ℕ) (area : Bounds) (ids : List Rid) (layers : List Layered) (layer : Layered) → AreTyped layers → features_at kind layers ≡ layer.features → layer.kind ≡ kind → HasAllNear layer.kind area layer.features ids → HasAllNear kind area (features_of layers) ids
near_whole kind area ids layers layer typed at is near =
    all_far kind area ids layers typed (subst (All (Listed kind area ids)) (sym at) (subst (λ (k : ℕ). HasAllNear k area layer.features ids) is near))

pub none_near : (kind : ℕ) (area : Bounds) (ids : List Rid) (layers : List Layered) → AreTyped layers → features_at kind layers ≡ [] → HasAllNear kind area (features_of layers) ids
none_near kind area ids layers typed at = all_far kind area ids layers typed (subst (All (Listed kind area ids)) (sym at) (All-nil (Listed kind area ids)))

-- no more features are near among those of one type than among all
pub near_few : (kind : ℕ) (area : Bounds) (layers : List Layered) (layer : Layered) → features_at kind layers ≡ layer.features → most_near layer.features kind area ≤ most_near (features_of layers) kind area
near_few kind area layers layer at =
    let test : Feature → Bool = is_found kind area in
    let low : List Feature = features_of (take kind layers) in
    let high : List Feature = features_of (drop (kind + 1) layers) in
    let whole : filter test (features_of layers) ≡ filter test low ++ (filter test layer.features ++ filter test high) =
    ap (filter test) (features_around layers kind ∙ ap (λ (fs : List Feature). low ++ (fs ++ high)) at) ∙ filter-append test low (layer.features ++ high) ∙ ap (λ (fs : List Feature). filter test low ++ fs) (filter-append test layer.features high) in
    let count = ap length whole in
    omega (arith, count, length-append (filter test low) (filter test layer.features ++ filter test high), length-append (filter test layer.features) (filter test high))
