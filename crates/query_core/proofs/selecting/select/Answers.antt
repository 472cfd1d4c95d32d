use Rattle.std.proofs.Common.{List, sym, ap, ◌∙◌, map, Bor}
use Rattle.std.proofs.lemmas.Result.{IfOk-weaker}
use Rattle.feature_values.specs.declared.feature.Feature.{Feature}
use Rattle.query_core.specs.Selecting.{ids_of}
use Rattle.query_core.specs.Sorting.{sorted}
use Rattle.query_core.proofs.Selects.{select_plain, select_sorted}
use Rattle.query_core.proofs.selecting.select.Goals as goal

pub returns-then-is_empty-clause-value : goal.returns-then-is_empty-clause-value
returns-then-is_empty-clause-value g c =
    IfOk-weaker c.ids_of.result _ _ (λ ids is. is ∙ ap (λ (l : List (Bor Feature)). ids_of (map (λ f. f.now) l)) c.deref.ensures.value
    ∙ select_plain (g.V.FeatureView.features c.args.view.now) c.args.query.now c.items-keys.result.now (map (λ f. f.now) c.in_ok-found.found.items) c.in_ok-found.ensures.order c.items-keys.ensures (sym c.is_empty.ensures ∙ c.if-is_empty.true) c.in_ok-found.ensures.value)
    c.ids_of.ensures

pub returns-clause-value : goal.returns-clause-value
returns-clause-value g c =
    IfOk-weaker c.sorted_ids.result _ _ (λ ids is. is ∙ ap (λ (l : List (Bor Feature)). ids_of (sorted c.items-keys.result.now (map (λ f. f.now) l))) c.deref-2.ensures.value
    ∙ select_sorted (g.V.FeatureView.features c.args.view.now) c.args.query.now c.items-keys.result.now (map (λ f. f.now) c.in_ok-found.found.items) c.items-keys.ensures c.in_ok-found.ensures.value)
    c.sorted_ids.ensures
