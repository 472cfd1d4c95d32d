use Rattle.query_core.specs.Finding.{HasSelected}
use Rattle.query_core.proofs.Asks.{ids_selected, near_selected, both_selected}
use Rattle.query_core.proofs.looking.look_up_both.Goals as goal

pub look_up-requires-clause-whole : goal.look_up-requires-clause-whole
look_up-requires-clause-whole g c =
    let features = g.V.FeatureView.features c.args.view.now in
    let query = c.args.query.now in
    let first : HasSelected query features c.deref.result.now = rw c.deref.ensures.value (ids_selected features query c.args.references.now c.in_ok-ids.ids.items c.in_ok-ids.ensures.same c.requires.ids) in
    let second : HasSelected query features c.deref-2.result.now = rw c.deref-2.ensures.value (near_selected features query c.args.area.now c.in_ok-near.near.items c.in_ok-near.ensures.whole c.requires.area) in
    rw c.deref-3.ensures.value (both_selected features query c.deref.result.now c.deref-2.result.now c.in_ok-both.both.items c.in_ok-both.ensures.same first second)
