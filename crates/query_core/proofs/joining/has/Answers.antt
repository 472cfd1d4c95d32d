use Rattle.std.proofs.Common.{◌≡◌, rules, ◌∙◌}
use Rattle.std.proofs.lemmas.Fn.{always_returns_same}
use Rattle.query_core.specs.Sorting.{rid_order}
use Rattle.query_core.proofs.Joins.{search_tells}
use Rattle.query_core.proofs.joining.has.Goals as goal

pub returns : goal.returns
returns c =
    let id = c.args.id in
    let compares = always_returns_same _ (λ a r. r ≡ rid_order a.0.now id) _ (λ a r f' k. search rules) in
    c.is_ok.ensures.value ∙ search_tells c.args.sorted.now id c.binary_search_by.result c.requires c.binary_search_by.ensures.bound (c.binary_search_by.ensures.position (λ other. rid_order other id) compares)
