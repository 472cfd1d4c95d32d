use Rattle.std.proofs.Common.{◌≤◌, ◌∙◌, List, length, ap, sym, subst}
use Rattle.std.specs.BinaryHeap.{heap_items}
use Rattle.lock_table.specs.Lock.{Lock, Locks}
use Rattle.lock_table.specs.Held.{live}
use Rattle.lock_table.proofs.Queued.{all_later, standing_live}
use Rattle.lock_table.proofs.Seen.{live_seen}
use Rattle.lock_table.proofs.table.LockTable.live_count.Goals as goal

pub returns-then-is_due : goal.returns-then-is_due
returns-then-is_due c =
    let t = c.self.inside in
    let le = subst (λ (s : Locks). s.last ≤ c.args.moment) (sym c.self.view_is) c.requires in
    c.live_count.ensures ∙ rw c.as_slice.ensures.value (ap (λ (ls : List Lock). length ls) (sym (live_seen t.last c.args.moment t.locks.items le)) ∙ ap (λ (s : Locks). length (live c.args.moment s.locks)) c.self.view_is)

-- no lock that has not been ended has ended by then
pub returns-else-is_due : goal.returns-else-is_due
returns-else-is_due c =
    let t = c.self.inside in
    let le = subst (λ (s : Locks). s.last ≤ c.args.moment) (sym c.self.view_is) c.requires in
    c.self.invariant.3 ∙ ap (λ (ls : List Lock). length ls) (standing_live c.args.moment (heap_items t.deadlines.queue) t.locks.items (all_later c.args.moment (heap_items t.deadlines.queue) (sym c.is_due.ensures ∙ c.if-is_due.false)) c.self.invariant.2 ∙ sym (live_seen t.last c.args.moment t.locks.items le)) ∙ ap (λ (s : Locks). length (live c.args.moment s.locks)) c.self.view_is
