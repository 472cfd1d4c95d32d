use Rattle.std.proofs.Common.{◌≡◌, ℕ, ◌+◌, ◌≤◌, ◌<◌, ◌∙◌, List, ◌++◌, ◌∷◌, [], ap, sym, subst, arith, length}
use Rattle.std.specs.Prelude.{All, None}
use Rattle.std.specs.BinaryHeap.{heap_items}
use Rattle.std.specs.HashMap.{hash_map_len}
use Rattle.std.specs.Vec.{vec_len}
use Rattle.feature_values.specs.declared.feature.Rid.{Rid}
use Rattle.lock_table.specs.Lock.{Lock, Locks}
use Rattle.lock_table.specs.Held.{holder, is_live, live, feature_count, IsRising}
use Rattle.lock_table.specs.Steps.{granted, new_lock}
use Rattle.lock_table.specs.Kept.{number_at, given_to, AreKept}
use Rattle.lock_table.specs.Queue.{AreQueued, AreQueuedBut}
use Rattle.lock_table.proofs.Counted.{one_if, one_more, few, no_more, at_most_one}
use Rattle.lock_table.proofs.Granting.{granted_kept, free_kept}
use Rattle.lock_table.proofs.Queued.{new_but}
use Rattle.lock_table.proofs.Rising.{rising_more}
use Rattle.lock_table.proofs.Seen.{more_seen}
use Rattle.lock_table.proofs.table.LockTable.add_lock.Goals as goal

pub overflow_add-self : goal.overflow_add-self
overflow_add-self c =
    let t = c.self.inside in
    let given : t.given < 18_446_744_073_709_551_615 = subst (λ (s : Locks). s.given < 18_446_744_073_709_551_615) (sym c.self.view_is) c.requires.numbers in
    let one : c.live_count.result ≤ 1 = rw c.live_count.ensures (at_most_one (is_live 0 c.new-lock.result)) in
    let most : 0 + length t.locks.items ≤ t.given = few 0 t.given t.locks.items c.self.invariant.0.rising c.self.invariant.0.counted (omega arith) in
    omega (arith, given, one, most, no_more 0 t.locks.items, c.self.invariant.3)

pub note-requires-clause-rising : goal.note-requires-clause-rising
note-requires-clause-rising c =
    let t = c.self.inside in
    let number : c.new-lock.result.number ≡ t.given + 1 = cc in
    subst (IsRising 0) (sym (c.as_slice.ensures.value ∙ c.push.ensures.items)) (rising_more 0 t.given c.new-lock.result t.locks.items (omega arith) number c.self.invariant.0.counted c.self.invariant.0.rising)

pub invariant_of-self : goal.invariant_of-self
invariant_of-self c =
    let t = c.self.inside in
    let le = subst (λ (s : Locks). s.last ≤ c.args.moment) (sym c.self.view_is) c.requires.moment in
    let free = subst (λ (s : Locks). All (λ (f : Rid). holder s.locks c.args.moment f ≡ None) c.args.features) (sym c.self.view_is) c.requires.free in
    let given_all = λ (f : Rid). subst (λ (fs : List Rid). number_at c.give.new.self.numbers f ≡ given_to (t.given + 1) fs (number_at t.holders.numbers) f) c.items.ensures (c.give.ensures f) in
    let lock_is : c.new-lock.result ≡ new_lock t.given c.args.features c.args.moment c.args.period = cc in
    let number : c.new-lock.result.number ≡ t.given + 1 = cc in
    let items : c.push.new.locks.items ≡ t.locks.items ++ new_lock t.given c.args.features c.args.moment c.args.period ∷ [] = c.push.ensures.items ∙ ap (λ (l : Lock). t.locks.items ++ l ∷ []) lock_is in
    let room : length c.args.features ≤ t.spare = subst (λ (s : Locks). length c.args.features ≤ s.spare) (sym c.self.view_is) c.requires.room in
    let some : 0 < t.spare = omega (arith, room, c.requires.some) in
    let but : AreQueuedBut (t.given + 1) (heap_items t.deadlines.queue) (t.locks.items ++ c.new-lock.result ∷ []) = subst (λ (n : ℕ). AreQueuedBut n (heap_items t.deadlines.queue) (t.locks.items ++ c.new-lock.result ∷ [])) number (new_but c.new-lock.result (heap_items t.deadlines.queue) t.locks.items c.self.invariant.2) in (
      subst (AreKept c.args.moment (t.given + 1) (number_at c.give.new.self.numbers)) (sym items)
          (granted_kept t.last c.args.moment t.given c.args.period c.args.features (number_at t.holders.numbers) (number_at c.give.new.self.numbers) t.locks.items le given_all c.self.invariant.0 (free_kept t.last c.args.moment c.args.features t.locks.items le free)),
      record { for_features = omega arith; for_lock = λ none. absurd (omega (arith, none)); for_entry = λ none. absurd (omega (arith, none)); for_entries = omega (arith, c.self.invariant.1.for_entry some, c.push.ensures.len, c.note.ensures.capacity) },
      subst (AreQueued (heap_items c.note.new.deadlines.queue)) c.as_slice.ensures.value (c.note.ensures.queued (subst (AreQueuedBut (t.given + 1) (heap_items t.deadlines.queue)) (sym (c.as_slice.ensures.value ∙ c.push.ensures.items)) but)),
      (ap (λ (n : ℕ). t.standing + n) c.live_count.ensures ∙ ap (λ (n : ℕ). n + one_if (is_live 0 c.new-lock.result)) c.self.invariant.3 ∙ sym (one_more c.new-lock.result t.locks.items) ∙ ap (λ (ls : List Lock). length (live 0 ls)) (sym c.push.ensures.items)),
    )

pub returns : goal.returns
returns c =
    let t = c.self.inside in
    let listed = feature_count c.push.new.locks.items in
    let mapped = hash_map_len c.give.new.self.numbers in
    let le = subst (λ (s : Locks). s.last ≤ c.args.moment) (sym c.self.view_is) c.requires.moment in
    let lock_is : c.new-lock.result ≡ new_lock t.given c.args.features c.args.moment c.args.period = cc in
    let items = ap (live c.args.moment) (c.push.ensures.items ∙ ap (λ (l : Lock). t.locks.items ++ l ∷ []) lock_is) ∙ sym (more_seen t.last c.args.moment (new_lock t.given c.args.features c.args.moment c.args.period) t.locks.items le) in
    ap (λ (n : ℕ). record { locks = live c.args.moment c.push.new.locks.items; opening = t.opening; given = t.given + 1; last = c.args.moment; spare = 0; kept = n; listed = listed; mapped = mapped }) c.push.ensures.len
    ∙ ap (λ (ls : List Lock). record { locks = ls; opening = t.opening; given = t.given + 1; last = c.args.moment; spare = 0; kept = vec_len t.locks + 1; listed = listed; mapped = mapped }) items
    ∙ ap (λ (s : Locks). record s { locks = granted c.args.moment s.given c.args.features c.args.period s.locks; given = s.given + 1; last = c.args.moment; spare = 0; kept = s.kept + 1; listed = listed; mapped = mapped }) c.self.view_is
