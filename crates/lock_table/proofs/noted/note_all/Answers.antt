use Rattle.std.proofs.Common.{◌≡◌, true, take, subst, arith}
use Rattle.std.specs.BinaryHeap.{heap_items}
use Rattle.lock_table.specs.Lock.{Lock}
use Rattle.lock_table.specs.Queue.{awaits_end, is_queued}
use Rattle.lock_table.proofs.Queued.{all_taken_more}
use Rattle.lock_table.proofs.Rising.{all_weaker}
use Rattle.lock_table.proofs.noted.note_all.Goals as goal

pub loop-lock-preserved : goal.loop-lock-preserved
loop-lock-preserved c =
    let i = c.loop-lock.lock-index in
    let before = heap_items c.loop-lock.deadlines.queue in
    let after = heap_items c.note_lock.new.deadlines.queue in record {
      queued = all_taken_more (λ l. awaits_end l ≡ true → is_queued after l ≡ true) c.args.locks.now i c.lock-item.result (omega arith)
          (all_weaker (λ l. awaits_end l ≡ true → is_queued before l ≡ true) (λ l. awaits_end l ≡ true → is_queued after l ≡ true) (take i c.args.locks.now) (λ l h awaits. c.note_lock.ensures.more l (h awaits)) c.loop-lock.invariant.queued)
          (subst (λ (l : Lock). awaits_end l ≡ true → is_queued after l ≡ true) c.lock-item.is c.note_lock.ensures.queued);
      len = omega (arith, c.loop-lock.invariant.len, c.note_lock.ensures.len);
      capacity = omega (arith, c.loop-lock.invariant.capacity, c.note_lock.ensures.capacity);
    }
