use Rattle.std.proofs.Common.{◌+◌, true, false, List, drop, ap, sym, ◌∙◌}
use Rattle.std.specs.Prelude.{slice_get}
use Rattle.feature_values.specs.declared.feature.Feature.{Feature}
use Rattle.feature_versions.specs.Types.{features_of}
use Rattle.feature_versions.proofs.Typed.{features_from, first_or, is_there, some_or, none_or}
use Rattle.feature_versions.proofs.layers.first_from.Goals as goal

pub returns-then-is_some : goal.returns-then-is_some
returns-then-is_some c =
    let layers = c.args.layers.now in
    let at = c.loop-at.at in
    let here = ap (λ (fs : List Feature). slice_get fs 0) (features_from layers at c.index-layers-at.result c.loop-at-test.true c.index-layers-at.is) ∙ first_or c.index-layers-at.result.features (features_of (drop (at + 1) layers)) in
    let some = is_there c.first-place.result.0 (slice_get c.index-layers-at.result.features 0) c.is_some.result true c.first-place.ensures c.is_some.ensures c.if-is_some.true in
    c.first-place.ensures ∙ sym (some_or (slice_get c.index-layers-at.result.features 0) (slice_get (features_of (drop (at + 1) layers)) 0) some) ∙ sym here ∙ c.loop-at.invariant

pub loop-at-preserved : goal.loop-at-preserved
loop-at-preserved c =
    let layers = c.args.layers.now in
    let at = c.loop-at.at in
    let here = ap (λ (fs : List Feature). slice_get fs 0) (features_from layers at c.index-layers-at.result c.loop-at-test.true c.index-layers-at.is) ∙ first_or c.index-layers-at.result.features (features_of (drop (at + 1) layers)) in
    let none = is_there c.first-place.result.0 (slice_get c.index-layers-at.result.features 0) c.is_some.result false c.first-place.ensures c.is_some.ensures c.if-is_some.false in
    sym (none_or (slice_get c.index-layers-at.result.features 0) (slice_get (features_of (drop (at + 1) layers)) 0) none) ∙ sym here ∙ c.loop-at.invariant
