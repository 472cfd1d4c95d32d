use Rattle.std.proofs.Common.{◌≡◌, ℕ, ◌+◌, ◌<◌, List, [], ◌∷◌, ◌++◌, length, get_or, length-append, ap, sym, ◌∙◌, subst}
use Rattle.feature_versions.specs.Layer.{Layered}
use Rattle.feature_versions.specs.Types.{IsAlike}
use Rattle.feature_versions.proofs.Alike.{copied_more}
use Rattle.feature_versions.proofs.layers.copy.Goals as goal

pub loop-layer-preserved : goal.loop-layer-preserved
loop-layer-preserved c =
    let before = c.loop-layer.copies.items in
    let i = c.loop-layer.layer-index in
    let one = c.in_ok-copy.field-0 in
    let now : c.push.new.self.items ≡ before ++ one ∷ [] = c.in_ok-push.ensures.items in
    let each = copied_more c.args.layers.now before i c.layer-item.result one c.loop-layer-test.true c.loop-layer.invariant.types c.layer-item.is c.in_ok-copy.ensures c.loop-layer.invariant.each in
    record {
      types = ap length now ∙ length-append before (one ∷ []) ∙ ap (λ n. n + 1) c.loop-layer.invariant.types;
      each = subst (λ (ls : List Layered). (k : ℕ) (d : Layered) → k < i + 1 → IsAlike (get_or c.args.layers.now k d) (get_or ls k d)) (sym now) each;
    }
