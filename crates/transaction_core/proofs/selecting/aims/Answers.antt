use Rattle.std.proofs.Common.{ap, ◌∙◌}
use Rattle.std.specs.Option.{option_copied}
use Rattle.std.proofs.lemmas.Result.{IfOk-weaker}
use Rattle.query_core.specs.Selecting.{selected_ids}
use Rattle.transaction_core.proofs.Aims.{aims_selected}
use Rattle.transaction_core.proofs.selecting.aims.Goals as goal

pub returns : goal.returns
returns g c =
    IfOk-weaker c.select.result _ _ (λ ids is. is ∙ ap (selected_ids (g.V.FeatureView.features c.args.view.now)) c.in_ok-query.ensures
    ∙ aims_selected c.args.kind (option_copied c.args.passing) (g.V.FeatureView.features c.args.view.now) c.requires)
    c.select.ensures.value
