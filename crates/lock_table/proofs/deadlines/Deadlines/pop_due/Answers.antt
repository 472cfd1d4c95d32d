use Rattle.std.proofs.Common.{◌≡◌, ◌∙◌, true, cond, sym, arith}
use Rattle.std.proofs.lemmas.List.Sorted.{list_any-IsPermutation, sum_by_popped}
use Rattle.lock_table.specs.Queue.{has_come}
use Rattle.lock_table.proofs.Queued.{soonest, less_due}
use Rattle.lock_table.proofs.deadlines.Deadlines.pop_due.Goals as goal

pub returns-in-Some-clause-entry : goal.returns-in-Some-clause-entry
returns-in-Some-clause-entry c = (c.in-Some.field-0.0.0, (λ p. list_any-IsPermutation p _ _ c.in-Some.ensures.permutation))

pub returns-in-Some-clause-count : goal.returns-in-Some-clause-count
returns-in-Some-clause-count c =
    let moment = c.args.moment in
    let top = c.in-Some.field-0 in
    let due : c.is_due.result ≡ true = grind (arith, c.if-not-is_due.false) in
    let some = sym (list_any-IsPermutation (has_come moment) _ _ c.in-Some.ensures.permutation) ∙ sym c.is_due.ensures ∙ due in
    less_due moment top.0.0 top.0.1 _ _ c.pop.new.self.data.items (soonest top _ (c.in-Some.ensures.below_top c.args.self.now.ordered)) some
    (sum_by_popped (λ e. cond (has_come moment e) 1 0) _ _ _ c.in-Some.ensures.permutation)
