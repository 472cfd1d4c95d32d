use Rattle.std.proofs.Common.{◌≡◌, ◌∙◌, rules, is_lt, map, Bor}
use Rattle.std.proofs.lemmas.Fn.{always_returns_same}
use Rattle.std.proofs.lemmas.List.Sorted.{ranks_by}
use Rattle.feature_values.specs.declared.feature.Feature.{Feature}
use Rattle.query_core.specs.declared.keyed.Keyed.{Keyed}
use Rattle.query_core.specs.Keyed.{pair_of, pair_order}
use Rattle.query_core.proofs.Orders.{pair_total}
use Rattle.query_core.proofs.Sorts.{keyed_sorted, pairs_by}
use Rattle.query_core.proofs.keyed.sort_keyed.Goals as goal

pub returns : goal.returns
returns c =
    let keys = c.args.keys.now in
    let lt = λ (a : Keyed) (b : Keyed). is_lt (pair_order keys (pair_of a) (pair_of b)) in
    let strict = ranks_by (pair_total keys) (λ (k : Keyed). pair_of k) in
    let compares = always_returns_same _ (λ a r. is_lt r ≡ lt a.0.now a.1.0.now) _ (λ a r f' k. search rules) in
    keyed_sorted keys (map (λ (f : Bor Feature). f.now) c.args.features.now) c.in_ok-all.all.items c.sort_by.new.self.items
    (c.in_ok-all.ensures ∙ pairs_by (λ (f : Bor Feature). f.now) keys c.args.features.now)
    (c.in_ok-sort_by.ensures.sorted lt strict compares) (c.sort_by.ensures.stable lt strict compares)
