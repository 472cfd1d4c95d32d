use Rattle.std.proofs.Common.{rules}
use Rattle.std.proofs.lemmas.Fn.{filter_same}
use Rattle.lock_table.specs.Held.{is_live}
use Rattle.lock_table.specs.Kept.{number_at}
use Rattle.lock_table.proofs.Keeping.{filter_kept}
use Rattle.lock_table.proofs.Listed.{live_listed}
use Rattle.lock_table.proofs.Room.{fewer_listed}
use Rattle.lock_table.proofs.swept.sweep.Goals as goal

pub returns-clause-locks : goal.returns-clause-locks
returns-clause-locks c = filter_same _ _ _ (λ x b f' k. search rules) _ _ c.retain.ensures.filtered

pub returns-clause-listed : goal.returns-clause-listed
returns-clause-listed c = rw (returns-clause-locks c) (fewer_listed (is_live c.args.last) c.args.locks.now.items)

pub returns-clause-kept : goal.returns-clause-kept
returns-clause-kept c = λ given kept.
    let holds = number_at c.free_ended.new.holders.numbers in
    let after = (rw c.as_slice.ensures.value at (c.free_ended.ensures.kept given)) kept in
    let freed = rw c.as_slice.ensures.value at c.free_ended.ensures.freed in
    rw (returns-clause-locks c) (filter_kept c.args.last given (is_live c.args.last) holds c.args.locks.now.items (live_listed c.args.last holds c.args.locks.now.items freed after.listed) after)
