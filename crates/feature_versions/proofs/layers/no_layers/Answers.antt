use Rattle.std.proofs.Common.{◌≡◌, ◌+◌, [], ◌∷◌, ◌++◌, length, ap, sym, ◌∙◌, subst}
use Rattle.feature_versions.specs.Types.{features_of, AreTyped}
use Rattle.feature_versions.proofs.Typed.{Pushed, one_more}
use Rattle.feature_versions.proofs.layers.no_layers.Goals as goal

pub loop-place-preserved : goal.loop-place-preserved
loop-place-preserved c =
    let before = c.loop-place.layers.items in
    let kind : c.new.result.kind ≡ length before = c.new.ensures.kind ∙ c.in_ok-kind_of.ensures ∙ sym c.loop-place.invariant.types in
    let more : Pushed before c.new.result = one_more before c.new.result c.loop-place.invariant.typed kind c.new.ensures.features in
    let now : c.push.new.self.items ≡ before ++ c.new.result ∷ [] = c.in_ok-push.ensures.items in
    record {
      typed = subst AreTyped (sym now) more.typed;
      types = ap length now ∙ more.types ∙ ap (λ n. n + 1) c.loop-place.invariant.types;
      features = ap features_of now ∙ more.features ∙ c.loop-place.invariant.features;
    }
