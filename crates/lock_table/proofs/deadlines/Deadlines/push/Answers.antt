use Rattle.std.proofs.Common.{sym, cond}
use Rattle.std.proofs.lemmas.List.Sorted.{list_any-IsPermutation, sum_by_pushed}
use Rattle.lock_table.proofs.deadlines.Deadlines.push.Goals as goal

pub returns-clause-entry : goal.returns-clause-entry
returns-clause-entry c = λ p. sym (list_any-IsPermutation p _ _ c.in-Ok.ensures.permutation)

pub returns-clause-count : goal.returns-clause-count
returns-clause-count c = λ p. sum_by_pushed (λ e. cond (p e) 1 0) _ _ _ c.in-Ok.ensures.permutation
