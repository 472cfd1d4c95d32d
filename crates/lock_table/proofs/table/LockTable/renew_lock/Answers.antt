use Rattle.std.proofs.Common.{◌≡◌, ℕ, ◌≤◌, ◌∙◌, List, ap, sym, subst, true, arith, refl}
use Rattle.std.specs.BinaryHeap.{heap_items}
use Rattle.std.specs.HashMap.{hash_map_len}
use Rattle.std.specs.Vec.{vec_len}
use Rattle.lock_table.specs.Lock.{Lock, Locks}
use Rattle.lock_table.specs.Held.{is_live_number, live, feature_count}
use Rattle.lock_table.specs.Steps.{renewed, renewed_lock}
use Rattle.lock_table.specs.Kept.{number_at, AreKept}
use Rattle.lock_table.proofs.Changes.{rising_after, queued_after, some_stand, count_after}
use Rattle.lock_table.proofs.Counted.{stands}
use Rattle.lock_table.proofs.Granting.{change_seen}
use Rattle.lock_table.proofs.Keeping.{renewed_kept}
use Rattle.lock_table.proofs.Seen.{number_seen}
use Rattle.lock_table.proofs.table.LockTable.renew_lock.Goals as goal

pub renew-requires : goal.renew-requires
renew-requires c = c.self.invariant.0.rising

pub left_standing-self-inside-requires-clause-rising : goal.left_standing-self-inside-requires-clause-rising
left_standing-self-inside-requires-clause-rising c = rising_after c.args.number (renewed_lock c.args.moment c.args.period) (λ l. refl) c.self.inside.locks.items c.self.invariant.0.rising c.as_slice-2.result.now (c.as_slice-2.ensures.value ∙ c.renew.ensures.items)

pub left_standing-self-inside-requires-clause-some : goal.left_standing-self-inside-requires-clause-some
left_standing-self-inside-requires-clause-some c =
    let t = c.self.inside in
    let le = subst (λ (s : Locks). s.last ≤ c.args.moment) (sym c.self.view_is) c.requires.moment in
    let there = sym (number_seen t.last c.args.moment c.args.number t.locks.items le) ∙ subst (λ (s : Locks). is_live_number s.locks c.args.moment c.args.number ≡ true) (sym c.self.view_is) c.requires.live in
    some_stand c.args.number (renewed_lock c.args.moment c.args.period) (λ l. refl) t.locks.items c.self.invariant.0.rising t.standing c.as_slice-2.result.now (c.as_slice-2.ensures.value ∙ c.renew.ensures.items) c.self.invariant.3 (stands c.args.moment c.args.number t.locks.items there)

pub invariant_of-self : goal.invariant_of-self
invariant_of-self c =
    let t = c.self.inside in
    let le = subst (λ (s : Locks). s.last ≤ c.args.moment) (sym c.self.view_is) c.requires.moment in
    let there = sym (number_seen t.last c.args.moment c.args.number t.locks.items le) ∙ subst (λ (s : Locks). is_live_number s.locks c.args.moment c.args.number ≡ true) (sym c.self.view_is) c.requires.live in (
      subst (AreKept c.args.moment t.given (number_at c.self.inside.holders.numbers)) (sym c.renew.ensures.items) (renewed_kept t.last c.args.moment t.given c.args.number c.args.period (number_at c.self.inside.holders.numbers) t.locks.items le c.self.invariant.0 there),
      record { for_features = c.self.invariant.1.for_features; for_lock = λ some. omega (arith, c.self.invariant.1.for_lock some, c.renew.ensures.len, c.renew.ensures.capacity); for_entry = λ some. omega (arith, c.self.invariant.1.for_entry some, c.renew.ensures.len, c.note.ensures.capacity); for_entries = omega (arith, c.self.invariant.1.for_entries, c.renew.ensures.len, c.note.ensures.capacity) },
      queued_after c.args.number (renewed_lock c.args.moment c.args.period) (λ l. refl) t.locks.items c.self.invariant.0.rising (heap_items t.deadlines.queue) (heap_items c.note.new.deadlines.queue) c.as_slice.result.now c.renew.new.locks.items (c.as_slice.ensures.value ∙ c.renew.ensures.items) c.renew.ensures.items c.note.ensures.queued c.self.invariant.2,
      count_after c.args.number (renewed_lock c.args.moment c.args.period) (λ l. refl) t.locks.items c.self.invariant.0.rising t.standing c.left_standing-self-inside.result c.as_slice-2.result.now c.renew.new.locks.items (c.as_slice-2.ensures.value ∙ c.renew.ensures.items) c.renew.ensures.items c.self.invariant.3 (stands c.args.moment c.args.number t.locks.items there) c.left_standing-self-inside.ensures,
    )

pub returns : goal.returns
returns c =
    let t = c.self.inside in
    let listed = feature_count c.renew.new.locks.items in
    let mapped = hash_map_len t.holders.numbers in
    let le = subst (λ (s : Locks). s.last ≤ c.args.moment) (sym c.self.view_is) c.requires.moment in
    let there = sym (number_seen t.last c.args.moment c.args.number t.locks.items le) ∙ subst (λ (s : Locks). is_live_number s.locks c.args.moment c.args.number ≡ true) (sym c.self.view_is) c.requires.live in
    let items = ap (live c.args.moment) c.renew.ensures.items ∙ sym (change_seen t.last c.args.moment t.given c.args.number (renewed_lock c.args.moment c.args.period) (number_at c.self.inside.holders.numbers) t.locks.items le c.self.invariant.0 there) in
    ap (λ (n : ℕ). record { locks = live c.args.moment c.renew.new.locks.items; opening = t.opening; given = t.given; last = c.args.moment; spare = t.spare; kept = n; listed = listed; mapped = mapped }) c.renew.ensures.len
    ∙ ap (λ (ls : List Lock). record { locks = ls; opening = t.opening; given = t.given; last = c.args.moment; spare = t.spare; kept = vec_len t.locks; listed = listed; mapped = mapped }) items
    ∙ ap (λ (s : Locks). record s { locks = renewed c.args.moment c.args.number c.args.period s.locks; last = c.args.moment; listed = listed; mapped = mapped }) c.self.view_is

pub note-requires-clause-rising : goal.note-requires-clause-rising
note-requires-clause-rising c = rising_after c.args.number (renewed_lock c.args.moment c.args.period) (λ l. refl) c.self.inside.locks.items c.self.invariant.0.rising c.as_slice.result.now (c.as_slice.ensures.value ∙ c.renew.ensures.items)
