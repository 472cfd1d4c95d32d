use Rattle.std.proofs.Common.{◌≡◌, ℕ, List, rules, is_lt}
use Rattle.std.specs.Ordering.{nat_cmp}
use Rattle.std.specs.Cmp.Lexicographic.{slice_cmp}
use Rattle.std.proofs.lemmas.Cmp.{nat_list_cmp_total}
use Rattle.std.proofs.lemmas.Fn.{always_returns_same}
use Rattle.std.proofs.lemmas.List.Sorted.{ranks_by}
use Rattle.stored_queries.proofs.finding.ordered.Goals as goal

pub returns-clause-order : goal.returns-clause-order
returns-clause-order c =
    let lt = λ (a : List ℕ) (b : List ℕ). is_lt (slice_cmp nat_cmp a b) in
    let compares = always_returns_same _ (λ a r. is_lt r ≡ lt a.0.now a.1.0.now) _ (λ a r f' k. search rules) in
    c.in_ok-sort_by.ensures.sorted lt (ranks_by nat_list_cmp_total (λ text. text)) compares
