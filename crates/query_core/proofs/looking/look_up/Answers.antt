use Rattle.std.proofs.Common.{List, Bor, ap, ◌∙◌, arith, length, map, filter}
use Rattle.std.proofs.lemmas.Result.{IfOk-weaker}
use Rattle.feature_values.specs.declared.feature.Feature.{Feature}
use Rattle.query_core.specs.Selecting.{is_selected}
use Rattle.query_core.proofs.Asks.{looked_up}
use Rattle.query_core.proofs.Counts.{found_few}
use Rattle.query_core.proofs.looking.look_up.Goals as goal

pub returns-clause-value : goal.returns-clause-value
returns-clause-value g c =
    let features = g.V.FeatureView.features c.args.view.now in
    let test = is_selected c.args.query.now in
    IfOk-weaker c.selected_of.result _ _ (λ fs is. is ∙ ap (λ (l : List (Bor Feature)). filter test (map (λ f. f.now) l)) c.deref.ensures.value
    ∙ ap (filter test) c.in_ok-features.ensures
    ∙ looked_up features c.args.query.now c.args.ids.now c.next.ensures.view.order c.requires.order c.requires.whole)
    c.selected_of.ensures.value

pub returns-clause-steps : goal.returns-clause-steps
returns-clause-steps g c =
    omega (arith, c.selected_of.ensures.steps, ap length c.deref.ensures.value, found_few (λ (f : Bor Feature). f.now) (g.V.FeatureView.features c.args.view.now) c.args.ids.now c.in_ok-features.features.items c.in_ok-features.ensures)
