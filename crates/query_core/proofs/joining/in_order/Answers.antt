use Rattle.std.proofs.Common.{◌≡◌, rules, is_lt}
use Rattle.std.proofs.lemmas.Fn.{always_returns_same}
use Rattle.std.proofs.lemmas.List.Sorted.{ranks_by}
use Rattle.feature_values.specs.declared.feature.Rid.{Rid}
use Rattle.query_core.specs.Sorting.{rid_order}
use Rattle.query_core.proofs.Orders.{rid_total}
use Rattle.query_core.proofs.joining.in_order.Goals as goal

pub returns-clause-sorted : goal.returns-clause-sorted
returns-clause-sorted c =
    let lt = λ (a : Rid) (b : Rid). is_lt (rid_order a b) in
    let compares = always_returns_same _ (λ a r. is_lt r ≡ lt a.0.now a.1.0.now) _ (λ a r f' k. search rules) in
    c.in_ok-sort_by.ensures.sorted lt (ranks_by rid_total (λ id. id)) compares
