use Rattle.std.proofs.Common.{◌≡◌, rules, is_lt}
use Rattle.std.specs.List.{dedup}
use Rattle.std.proofs.lemmas.Fn.{always_returns_same}
use Rattle.std.proofs.lemmas.List.Filters.{dedup_is}
use Rattle.std.proofs.lemmas.List.Sorted.{ranks_by}
use Rattle.feature_values.specs.declared.feature.Rid.{Rid}
use Rattle.fes_filter.specs.View.{is_same}
use Rattle.query_core.specs.Sorting.{rid_order}
use Rattle.query_core.proofs.Once.{rises_once, same_once}
use Rattle.query_core.proofs.Orders.{rid_total}
use Rattle.query_core.proofs.asking.each_in_order.Goals as goal

pub returns-clause-order : goal.returns-clause-order
returns-clause-order c =
    let lt = λ (a : Rid) (b : Rid). is_lt (rid_order a b) in
    let compares = always_returns_same _ (λ a r. is_lt r ≡ lt a.0.now a.1.0.now) _ (λ a r f' k. search rules) in
    let left : c.dedup.new.self.items ≡ dedup is_same c.sort_by.new.self.items = dedup_is is_same c.sort_by.new.self.items c.dedup.new.self.items c.dedup.ensures.filtered in
    rw left (rises_once c.sort_by.new.self.items (c.in_ok-sort_by.ensures.sorted lt (ranks_by rid_total (λ id. id)) compares))

pub returns-clause-same : goal.returns-clause-same
returns-clause-same c = λ id.
    let left : c.dedup.new.self.items ≡ dedup is_same c.sort_by.new.self.items = dedup_is is_same c.sort_by.new.self.items c.dedup.new.self.items c.dedup.ensures.filtered in
    rw left (same_once id c.args.ids.items c.sort_by.new.self.items c.in_ok-sort_by.ensures.permutation)
