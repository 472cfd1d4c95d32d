use Rattle.std.proofs.Common.{sym, ap, ◌∙◌}
use Rattle.std.proofs.lemmas.Result.{IfOk-weaker}
use Rattle.query_core.specs.Selecting.{ids_of}
use Rattle.transaction_core.proofs.Aims.{none_selected, update_aims, replace_aims, delete_aims}
use Rattle.transaction_core.proofs.selecting.selected.Goals as goal

pub returns-in-Insert-clause-value : goal.returns-in-Insert-clause-value
returns-in-Insert-clause-value g c =
    rw c.in-Insert.is (c.of.ensures ∙ c.new.ensures.items ∙ sym (ap ids_of (none_selected c.in-Insert.handle c.in-Insert.features (g.V.FeatureView.features c.args.view.now))))

pub returns-in-Update-clause-value : goal.returns-in-Update-clause-value
returns-in-Update-clause-value g c =
    rw c.in-Update.is (IfOk-weaker c.aims.result _ _ (λ ids is. is ∙ rw c.as_ref.ensures.value (update_aims c.in-Update.handle c.in-Update.kind c.in-Update.sets c.in-Update.filter (g.V.FeatureView.features c.args.view.now))) c.aims.ensures)

pub returns-in-Replace-clause-value : goal.returns-in-Replace-clause-value
returns-in-Replace-clause-value g c =
    rw c.in-Replace.is (IfOk-weaker c.aims-in-Replace.result _ _ (λ ids is. is ∙ replace_aims c.in-Replace.handle c.in-Replace.feature c.in-Replace.filter (g.V.FeatureView.features c.args.view.now)) c.aims-in-Replace.ensures)

pub returns-in-Delete-clause-value : goal.returns-in-Delete-clause-value
returns-in-Delete-clause-value g c =
    rw c.in-Delete.is (IfOk-weaker c.aims-in-Delete.result _ _ (λ ids is. is ∙ delete_aims c.in-Delete.kind c.in-Delete.filter (g.V.FeatureView.features c.args.view.now)) c.aims-in-Delete.ensures)
