use Rattle.std.proofs.Common.{◌≡◌, Ok, length, take, subst, sym, ap, ◌∙◌}
use Rattle.feature_values.specs.declared.schema.Schema.{Schema}
use Rattle.feature_values.specs.Fits.{feature_fits}
use Rattle.feature_overlay.specs.Laid.{all_laid}
use Rattle.wfs_model.specs.OfSchema.{IsNewOf}
use Rattle.wfs_model.specs.Plans.{Planning}
use Rattle.transaction_core.proofs.Folding.{fold_more, all_at}
use Rattle.transaction_core.proofs.Fitting.{new_within}
use Rattle.transaction_core.specs.Planning.{planning_of, came}
use Rattle.transaction_core.proofs.Acting.{all_as_many}
use Rattle.transaction_core.proofs.inserting.insert_all.Goals as goal

pub insert-requires : goal.insert-requires
insert-requires g c =
    let schema = g.V.FeatureView.schema c.args.overlay.now.view.now in
    let begun = planning_of (all_laid (g.V.FeatureView.features c.args.overlay.now.view.now) c.args.overlay.now.changes.entries) c.args.tally.now in
    let as_many = ap (λ (p : Planning). length p.at.counters) c.loop-feature.invariant.came ∙ all_as_many c.args.handle.now begun (take c.loop-feature.feature-index c.args.features.now) in
    let new : IsNewOf schema c.feature-item.result = all_at (IsNewOf schema) c.args.features.now c.loop-feature.feature-index c.feature-item.result c.requires.fitting c.loop-feature-test.true c.feature-item.is in
    record {
      kind = new_within schema c.loop-feature.tally.counters.items c.feature-item.result (as_many ∙ c.requires.counters) new;
      fits = subst (λ (s : Schema). feature_fits s c.feature-item.result ≡ Ok tt) (sym c.loop-feature.invariant.schema) new.fits;
    }

pub loop-feature-preserved : goal.loop-feature-preserved
loop-feature-preserved g c =
    let begun = planning_of (all_laid (g.V.FeatureView.features c.args.overlay.now.view.now) c.args.overlay.now.changes.entries) c.args.tally.now in
    record {
      came =
          c.in_ok-insert.ensures.came
          ∙ ap (λ plan. came c.args.handle.now plan c.feature-item.result) c.loop-feature.invariant.came
          ∙ sym (fold_more (came c.args.handle.now) begun c.args.features.now c.loop-feature.feature-index c.feature-item.result c.loop-feature-test.true c.feature-item.is);
      schema = c.in_ok-insert.ensures.schema ∙ c.loop-feature.invariant.schema;
    }
