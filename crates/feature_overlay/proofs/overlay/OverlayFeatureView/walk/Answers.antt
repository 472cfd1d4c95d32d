use Rattle.std.proofs.Common.{◌∙◌}
use Rattle.std.specs.Option.{option_copied}
use Rattle.feature_overlay.proofs.Keeping.{next_is_lesser}
use Rattle.feature_overlay.proofs.Fitting.{laid_view}
use Rattle.feature_overlay.proofs.overlay.OverlayFeatureView.walk.Goals as goal

pub returns-clause-value : goal.returns-clause-value
returns-clause-value g c =
    c.lesser.ensures
    ∙ next_is_lesser (g.V.FeatureView.features c.args.self.now.view.now) c.args.self.now.changes.entries c.args.after (option_copied c.next_kept.result) (option_copied c.next_put.result) c.args.self.now.keyed c.next_kept.ensures.view.order c.next_kept.ensures.value c.next_put.ensures

pub returns-clause-view : goal.returns-clause-view
returns-clause-view g c = laid_view (g.V.FeatureView.schema c.args.self.now.view.now) (g.V.FeatureView.features c.args.self.now.view.now) c.args.self.now.changes.entries c.args.self.now.is_view c.args.self.now.keyed c.args.self.now.fitting
