use Rattle.query_core.proofs.Asks.{ids_selected}
use Rattle.query_core.proofs.looking.look_up_ids.Goals as goal

pub look_up-requires-clause-whole : goal.look_up-requires-clause-whole
look_up-requires-clause-whole g c =
    rw c.deref.ensures.value (ids_selected (g.V.FeatureView.features c.args.view.now) c.args.query.now c.args.references.now c.in_ok-ids.ids.items c.in_ok-ids.ensures.same c.requires)
