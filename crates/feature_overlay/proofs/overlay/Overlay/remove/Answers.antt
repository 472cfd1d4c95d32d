use Rattle.std.proofs.Common.{None}
use Rattle.std.proofs.lemmas.Result.{on_ok_weaker}
use Rattle.feature_overlay.proofs.Layings.{laid_over}
use Rattle.feature_overlay.proofs.overlay.Overlay.remove.Goals as goal

pub returns-clause-ok : goal.returns-clause-ok
returns-clause-ok g c =
    on_ok_weaker c.change.result (λ is. laid_over (g.V.FeatureView.features c.args.self.now.view.now) c.args.self.now.changes.entries c.change.new.changes.entries c.args.id None c.args.self.now.is_view.order c.args.self.now.keyed (c.change.ensures.keyed tt c.args.self.now.keyed) tt is) c.change.ensures.ok
