use Rattle.std.proofs.Common.{◌∙◌}
use Rattle.feature_overlay.proofs.Fitting.{laid_view}
use Rattle.feature_overlay.proofs.Layings.{found_changed, found_kept}
use Rattle.feature_overlay.proofs.overlay.OverlayFeatureView.get.Goals as goal

pub returns-in-Some-clause-value : goal.returns-in-Some-clause-value
returns-in-Some-clause-value g c =
    c.as_ref.ensures.value ∙ found_changed (g.V.FeatureView.features c.args.self.now.view.now) c.args.self.now.changes.entries c.args.id c.in-Some.change.now c.args.self.now.keyed c.in-Some.ensures

pub returns-in-None-clause-value : goal.returns-in-None-clause-value
returns-in-None-clause-value g c =
    c.get.ensures.value ∙ found_kept (g.V.FeatureView.features c.args.self.now.view.now) c.args.self.now.changes.entries c.args.id c.args.self.now.keyed c.in-None.ensures

pub returns-in-Some-clause-view : goal.returns-in-Some-clause-view
returns-in-Some-clause-view g c = laid_view (g.V.FeatureView.schema c.args.self.now.view.now) (g.V.FeatureView.features c.args.self.now.view.now) c.args.self.now.changes.entries c.args.self.now.is_view c.args.self.now.keyed c.args.self.now.fitting

pub returns-in-None-clause-view : goal.returns-in-None-clause-view
returns-in-None-clause-view g c = laid_view (g.V.FeatureView.schema c.args.self.now.view.now) (g.V.FeatureView.features c.args.self.now.view.now) c.args.self.now.changes.entries c.args.self.now.is_view c.args.self.now.keyed c.args.self.now.fitting
