use Rattle.std.proofs.Common.{◌≡◌, ℕ, ◌∙◌, List, ap, sym, subst, false, arith}
use Rattle.std.specs.BinaryHeap.{heap_items}
use Rattle.std.specs.Vec.{vec_len}
use Rattle.lock_table.specs.Lock.{Lock}
use Rattle.lock_table.specs.Held.{is_live_number, live}
use Rattle.lock_table.specs.Kept.{number_at, AreKept}
use Rattle.lock_table.proofs.Changes.{queued_ended, one_stands, ended_count}
use Rattle.lock_table.proofs.Counted.{ended_dead}
use Rattle.lock_table.proofs.Keeping.{dead_kept}
use Rattle.lock_table.proofs.Queued.{popped}
use Rattle.lock_table.proofs.Room.{listed_live, map_within}
use Rattle.lock_table.proofs.table.LockTable.expire.Goals as goal

-- a lock that is live is queued again
pub loop-number-preserved-then-is_live_number : goal.loop-number-preserved-then-is_live_number
loop-number-preserved-then-is_live_number c =
    let t = c.loop-number.self-inside in
    let before = c.loop-number.invariant in
    let entry = c.in-Some.ensures.entry in record {
      same = before.same;
      agree = before.agree;
      room = record { for_features = before.room.for_features; for_lock = before.room.for_lock; for_entry = λ some. omega (arith, before.room.for_entry some, c.pop_due.ensures.capacity, c.note_one.ensures.capacity); for_entries = omega (arith, before.room.for_entries, c.pop_due.ensures.capacity, c.note_one.ensures.capacity) };
      queued = (rw c.as_slice-then-is_live_number.ensures.value at c.note_one.ensures.queued) (popped entry.0 c.in-Some.number (heap_items t.deadlines.queue) (heap_items c.pop_due.new.self.queue) t.locks.items entry.1 before.queued);
      count = before.count;
    }

-- another one is ended
pub standing_without-self-inside-requires-clause-some : goal.standing_without-self-inside-requires-clause-some
standing_without-self-inside-requires-clause-some c =
    let t = c.loop-number.self-inside in
    let before = c.loop-number.invariant in
    one_stands c.in-Some.number t.standing t.locks.items c.as_slice-else-is_live_number-2.result.now before.agree.rising c.as_slice-else-is_live_number-2.ensures.value before.count

pub loop-number-preserved : goal.loop-number-preserved
loop-number-preserved c =
    let t = c.loop-number.self-inside in
    let before = c.loop-number.invariant in
    let entry = c.in-Some.ensures.entry in
    let number = c.in-Some.number in
    let dead : is_live_number t.locks.items t.last number ≡ false = rw c.as_slice.ensures.value at (sym c.is_live_number.ensures ∙ c.if-is_live_number.false) in
    let all = rw c.as_slice-else-is_live_number.ensures.value at c.features_of-features.ensures in record {
      same = ap (λ (n : ℕ). record c.args.self.now { locks = live t.last c.end.new.locks.items; opening = t.opening; given = t.given; last = t.last; spare = t.spare; kept = n }) c.end.ensures.len
          ∙ ap (λ (ls : List Lock). record c.args.self.now { locks = ls; opening = t.opening; given = t.given; last = t.last; spare = t.spare; kept = vec_len t.locks }) (ap (live t.last) c.end.ensures.items ∙ ended_dead t.last number t.locks.items dead) ∙ before.same;
      agree = subst (AreKept t.last t.given (number_at c.free.new.self.numbers)) (sym c.end.ensures.items)
          (dead_kept t.last t.given number c.features_of-features.result.now (number_at t.holders.numbers) (number_at c.free.new.self.numbers) t.locks.items c.free.ensures.freed all before.agree);
      room = record { for_features = omega (arith, before.room.for_features, c.free.ensures.room); for_lock = λ some. omega (arith, before.room.for_lock some, c.end.ensures.len, c.end.ensures.capacity); for_entry = λ some. omega (arith, before.room.for_entry some, c.end.ensures.len, c.pop_due.ensures.capacity); for_entries = omega (arith, before.room.for_entries, c.end.ensures.len, c.pop_due.ensures.capacity) };
      queued = queued_ended number (heap_items c.pop_due.new.self.queue) t.locks.items c.end.new.locks.items c.end.ensures.items (popped entry.0 number (heap_items t.deadlines.queue) (heap_items c.pop_due.new.self.queue) t.locks.items entry.1 before.queued);
      count = ended_count number t.standing t.locks.items c.as_slice-else-is_live_number-2.result.now before.agree.rising c.as_slice-else-is_live_number-2.ensures.value before.count c.standing_without-self-inside.result c.end.new.locks.items c.end.ensures.items c.standing_without-self-inside.ensures;
    }

-- no deadline that has come is left
pub returns-clause-listed : goal.returns-clause-listed
returns-clause-listed c =
    let t = c.loop-number.self-inside in
    listed_live t.last (heap_items t.deadlines.queue) t.locks.items c.in_default.ensures.none c.loop-number.invariant.queued

pub returns-clause-mapped : goal.returns-clause-mapped
returns-clause-mapped c =
    let t = c.loop-number.self-inside in
    omega (arith, map_within t.holders.numbers t.locks.items t.holders.unique c.loop-number.invariant.agree.listed, returns-clause-listed c)
