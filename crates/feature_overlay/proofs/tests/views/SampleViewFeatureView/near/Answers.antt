use Rattle.std.proofs.Common.{◌≡◌, ◌<◌, ◌≤◌, ℕ, suc, zero, List, [], ◌∷◌, length, get_or, map, IsTrue, refl, ap, arith}
use Rattle.std.specs.Prelude.{Contains, not}
use Rattle.std.proofs.lemmas.List.Elements.{All-map, All-weaker}
use Rattle.std.proofs.lemmas.Result.{IfOk-weaker}
use Rattle.feature_values.specs.declared.feature.Feature.{Feature}
use Rattle.feature_values.specs.declared.feature.Rid.{Rid}
use Rattle.fes_filter.specs.View.{is_same, IsInOrder, IsOnce, HasAllNear}
use Rattle.feature_overlay.proofs.Ordered.{Before, before_apart}
use Rattle.feature_overlay.proofs.tests.views.SampleViewFeatureView.near.Goals as goal

contained : (fs : List Feature) (k : ℕ) (d : Feature) → k < length fs → Contains (map (λ f. f.id) fs) (get_or fs k d).id
contained [] k d lt = absurd (omega (arith, lt))
contained (f ∷ fs) zero d lt = (0, omega arith, refl)
contained (f ∷ fs) (suc k) d lt = let more = contained fs k d (omega (arith, lt)) in (suc more.0, omega (arith, more.1), more.2)

once : (fs : List Feature) → IsInOrder fs → IsOnce (map (λ f. f.id) fs)
once [] order = tt
once (f ∷ fs) order = (
  All-map (λ (id : Rid). IsTrue (not (is_same f.id id))) (λ (g : Feature). g.id) fs
      (All-weaker (Before f) (λ (g : Feature). IsTrue (not (is_same f.id g.id))) (λ g before. ap not (before_apart f.id g.id before)) fs order.0),
  once fs order.1,
)

pub returns-clause-whole : goal.returns-clause-whole
returns-clause-whole c = IfOk-weaker c.ids_of.result (λ (ids : List Rid). ids ≡ map (λ f. f.id) c.items.result.now) (λ ids. HasAllNear c.args._kind c.args._area.now c.args.self.now.features ids) (λ ids is k d lt near. rw (is, c.items.ensures) (contained c.args.self.now.features k d lt)) c.ids_of.ensures

pub returns-clause-once : goal.returns-clause-once
returns-clause-once c = IfOk-weaker c.ids_of.result (λ (ids : List Rid). ids ≡ map (λ f. f.id) c.items.result.now) (λ ids. IsOnce ids) (λ ids is. rw (is, c.items.ensures) (once c.args.self.now.features c.args.self.now.is_view.order)) c.ids_of.ensures

same_length : (fs : List Feature) → length (map (λ f. f.id) fs) ≡ length fs
same_length [] = refl
same_length (f ∷ fs) = ap suc (same_length fs)

pub returns-clause-few : goal.returns-clause-few
returns-clause-few c = IfOk-weaker c.ids_of.result (λ (ids : List Rid). ids ≡ map (λ f. f.id) c.items.result.now) (λ ids. length ids ≤ length c.args.self.now.features) (λ ids is. rw (is, c.items.ensures) (omega (arith, same_length c.args.self.now.features))) c.ids_of.ensures
