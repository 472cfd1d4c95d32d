use Rattle.std.proofs.Common.{◌≡◌, ℕ, ◌∙◌, ◌≤◌, List, length, ap, sym, subst, arith, true}
use Rattle.std.specs.HashMap.{hash_map_len}
use Rattle.std.specs.BinaryHeap.{heap_items}
use Rattle.lock_table.specs.Lock.{Lock, Locks}
use Rattle.lock_table.specs.Held.{is_live, live, feature_count}
use Rattle.lock_table.specs.Queue.{awaits_end, is_queued, AreQueued}
use Rattle.lock_table.proofs.Counted.{kept_live}
use Rattle.lock_table.proofs.Rising.{all_filter}
use Rattle.lock_table.proofs.Seen.{live_seen}
use Rattle.lock_table.proofs.table.LockTable.sweep.Goals as goal

pub invariant_of-self : goal.invariant_of-self
invariant_of-self c =
    let t = c.self.inside in
    let same : live 0 c.sweep.new.locks.items ≡ c.sweep.new.locks.items = rw c.sweep.ensures.locks (kept_live t.last t.locks.items) in
    let count = ap (λ (ls : List Lock). length ls) c.as_slice.ensures.value in (
      c.sweep.ensures.kept t.given c.self.invariant.0,
      record { for_features = omega (arith, c.self.invariant.1.for_features, c.sweep.ensures.room); for_lock = λ some. omega (arith, c.self.invariant.1.for_lock some, c.sweep.ensures.len, c.sweep.ensures.capacity); for_entry = λ some. omega (arith, c.self.invariant.1.for_entry some, c.sweep.ensures.len); for_entries = omega (arith, c.self.invariant.1.for_entries, c.sweep.ensures.len) },
      subst (AreQueued (heap_items t.deadlines.queue)) (sym c.sweep.ensures.locks) (all_filter (λ l. awaits_end l ≡ true → is_queued (heap_items t.deadlines.queue) l ≡ true) (is_live t.last) t.locks.items c.self.invariant.2),
      (count ∙ ap (λ (ls : List Lock). length ls) (sym same)),
    )

pub returns-clause-same : goal.returns-clause-same
returns-clause-same c =
    let t = c.self.inside in
    let listed = feature_count c.sweep.new.locks.items in
    let mapped = hash_map_len c.sweep.new.holders.numbers in
    ap (λ (n : ℕ). record { locks = live t.last c.sweep.new.locks.items; opening = t.opening; given = t.given; last = t.last; spare = t.spare; kept = n; listed = listed; mapped = mapped }) (sym c.as_slice.ensures.len ∙ ap (λ (ls : List Lock). length ls) (c.as_slice.ensures.value ∙ c.sweep.ensures.locks))
    ∙ ap (λ (ls : List Lock). record { locks = ls; opening = t.opening; given = t.given; last = t.last; spare = t.spare; kept = length (live t.last t.locks.items); listed = listed; mapped = mapped }) (ap (live t.last) c.sweep.ensures.locks ∙ live_seen t.last t.last t.locks.items (omega arith))
    ∙ ap (λ (s : Locks). record s { kept = length s.locks; listed = listed; mapped = mapped }) c.self.view_is

pub returns-clause-listed : goal.returns-clause-listed
returns-clause-listed c = subst (λ (s : Locks). feature_count c.sweep.new.locks.items ≤ s.listed) c.self.view_is c.sweep.ensures.listed

pub returns-clause-mapped : goal.returns-clause-mapped
returns-clause-mapped c = subst (λ (s : Locks). hash_map_len c.sweep.new.holders.numbers ≤ s.mapped) c.self.view_is c.sweep.ensures.mapped
