use Rattle.std.proofs.Common.{subst, sym}
use Rattle.std.specs.Prelude.{Option}
use Rattle.feature_values.specs.declared.feature.Feature.{Feature}
use Rattle.feature_overlay.specs.Changed.{IsOf, FitsIf}
use Rattle.feature_overlay.specs.Laid.{all_laid}
use Rattle.wfs_model.proofs.Middle.{instead_keeps}
use Rattle.transaction_core.specs.Planning.{IsAimed}
use Rattle.transaction_core.proofs.Fitting.{fits_at, kind_at, instead_fits_if}
use Rattle.transaction_core.proofs.laying.turn.Goals as goal

pub lay-requires : goal.lay-requires
lay-requires g c =
    let schema = g.V.FeatureView.schema c.args.overlay.now.view.now in
    let stand = all_laid (g.V.FeatureView.features c.args.overlay.now.view.now) c.args.overlay.now.changes.entries in
    let f : Feature = c.in-Some.feature.now in
    let fits = fits_at schema stand c.args.id f c.in-Some.ensures.view c.in-Some.ensures.value in
    let aimed = subst (IsAimed c.args.action.now) (sym (kind_at stand c.args.id f c.in-Some.ensures.value)) c.requires.aimed in
    record {
      id = subst (λ (o : Option Feature). IsOf f.id o) (sym c.in_ok-now.ensures) (instead_keeps c.args.action.now f);
      fits = subst (λ (o : Option Feature). FitsIf schema o) (sym c.in_ok-now.ensures) (instead_fits_if schema c.args.action.now f c.requires.fitting fits aimed);
    }
