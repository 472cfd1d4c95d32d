use Rattle.feature_overlay.proofs.Nearby.{has_all_near, near_once, near_few}
use Rattle.feature_overlay.proofs.overlay.OverlayFeatureView.near.Goals as goal

pub returns-clause-whole : goal.returns-clause-whole
returns-clause-whole g c =
    rw (c.of.ensures, c.in_ok-push_put.ensures.put, c.in_ok-ids.ensures, c.items.ensures)
    (has_all_near c.args.kind c.args.area.now (g.V.FeatureView.features c.args.self.now.view.now) c.args.self.now.changes.entries c.in_ok-near.near c.args.self.now.keyed c.args.self.now.is_view.order c.in_ok-near.ensures.whole)

pub returns-clause-once : goal.returns-clause-once
returns-clause-once g c =
    rw (c.of.ensures, c.in_ok-push_put.ensures.put, c.in_ok-ids.ensures, c.items.ensures)
    (near_once c.args.kind c.args.self.now.changes.entries c.in_ok-near.near c.in_ok-near.ensures.once c.in_ok-push_put.ensures.once)

pub returns-clause-few : goal.returns-clause-few
returns-clause-few g c =
    rw (c.of.ensures, c.in_ok-push_put.ensures.put, c.in_ok-ids.ensures, c.items.ensures)
    (near_few c.args.kind c.args.self.now.changes.entries c.in_ok-near.near (g.V.FeatureView.most_near c.args.self.now.view.now c.args.kind c.args.area.now) c.in_ok-near.ensures.few)
