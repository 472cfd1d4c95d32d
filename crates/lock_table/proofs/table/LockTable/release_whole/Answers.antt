use Rattle.std.proofs.Common.{◌≡◌, ℕ, ◌≤◌, ◌∙◌, List, ap, sym, subst, true, arith, refl}
use Rattle.std.specs.BinaryHeap.{heap_items}
use Rattle.std.specs.HashMap.{hash_map_len}
use Rattle.std.specs.Vec.{vec_len}
use Rattle.lock_table.specs.declared.words.Release.TheVariants.{Whole}
use Rattle.lock_table.specs.Lock.{Lock, Locks}
use Rattle.lock_table.specs.Held.{is_live_number, live, feature_count}
use Rattle.lock_table.specs.Steps.{released}
use Rattle.lock_table.specs.Kept.{number_at, AreKept, ended}
use Rattle.lock_table.proofs.Changes.{rising_after, queued_ended, some_stand, count_after}
use Rattle.lock_table.proofs.Counted.{stands}
use Rattle.lock_table.proofs.Granting.{whole_ended}
use Rattle.lock_table.proofs.Keeping.{ended_kept}
use Rattle.lock_table.proofs.Queued.{queued_but}
use Rattle.lock_table.proofs.Seen.{number_seen}
use Rattle.lock_table.proofs.table.LockTable.release_whole.Goals as goal

pub end-requires : goal.end-requires
end-requires c = c.self.invariant.0.rising

pub left_standing-self-inside-requires-clause-rising : goal.left_standing-self-inside-requires-clause-rising
left_standing-self-inside-requires-clause-rising c = rising_after c.args.number (ended) (λ l. refl) c.self.inside.locks.items c.self.invariant.0.rising c.as_slice-2.result.now (c.as_slice-2.ensures.value ∙ c.end.ensures.items)

pub left_standing-self-inside-requires-clause-some : goal.left_standing-self-inside-requires-clause-some
left_standing-self-inside-requires-clause-some c =
    let t = c.self.inside in
    let le = subst (λ (s : Locks). s.last ≤ c.args.moment) (sym c.self.view_is) c.requires.moment in
    let there = sym (number_seen t.last c.args.moment c.args.number t.locks.items le) ∙ subst (λ (s : Locks). is_live_number s.locks c.args.moment c.args.number ≡ true) (sym c.self.view_is) c.requires.live in
    some_stand c.args.number (ended) (λ l. refl) t.locks.items c.self.invariant.0.rising t.standing c.as_slice-2.result.now (c.as_slice-2.ensures.value ∙ c.end.ensures.items) c.self.invariant.3 (stands c.args.moment c.args.number t.locks.items there)

pub invariant_of-self : goal.invariant_of-self
invariant_of-self c =
    let t = c.self.inside in
    let le = subst (λ (s : Locks). s.last ≤ c.args.moment) (sym c.self.view_is) c.requires.moment in
    let there = sym (number_seen t.last c.args.moment c.args.number t.locks.items le) ∙ subst (λ (s : Locks). is_live_number s.locks c.args.moment c.args.number ≡ true) (sym c.self.view_is) c.requires.live in (
      subst (AreKept c.args.moment t.given (number_at c.free.new.self.numbers)) (sym c.end.ensures.items) (ended_kept t.last c.args.moment t.given c.args.number c.features_of-features.result.now (number_at c.self.inside.holders.numbers) (number_at c.free.new.self.numbers) t.locks.items le c.free.ensures.freed c.self.invariant.0 (rw c.as_slice.ensures.value at c.features_of-features.ensures) there),
      record { for_features = omega (arith, c.self.invariant.1.for_features, c.free.ensures.room); for_lock = λ some. omega (arith, c.self.invariant.1.for_lock some, c.end.ensures.len, c.end.ensures.capacity); for_entry = λ some. omega (arith, c.self.invariant.1.for_entry some, c.end.ensures.len); for_entries = omega (arith, c.self.invariant.1.for_entries, c.end.ensures.len) },
      queued_ended c.args.number (heap_items t.deadlines.queue) t.locks.items c.end.new.locks.items c.end.ensures.items (queued_but c.args.number (heap_items t.deadlines.queue) t.locks.items c.self.invariant.2),
      count_after c.args.number (ended) (λ l. refl) t.locks.items c.self.invariant.0.rising t.standing c.left_standing-self-inside.result c.as_slice-2.result.now c.end.new.locks.items (c.as_slice-2.ensures.value ∙ c.end.ensures.items) c.end.ensures.items c.self.invariant.3 (stands c.args.moment c.args.number t.locks.items there) c.left_standing-self-inside.ensures,
    )

pub returns : goal.returns
returns c =
    let t = c.self.inside in
    let listed = feature_count c.end.new.locks.items in
    let mapped = hash_map_len c.free.new.self.numbers in
    let le = subst (λ (s : Locks). s.last ≤ c.args.moment) (sym c.self.view_is) c.requires.moment in
    let there = sym (number_seen t.last c.args.moment c.args.number t.locks.items le) ∙ subst (λ (s : Locks). is_live_number s.locks c.args.moment c.args.number ≡ true) (sym c.self.view_is) c.requires.live in
    let items = ap (live c.args.moment) c.end.ensures.items ∙ sym (whole_ended t.last c.args.moment t.given c.args.number c.args.touched.now (number_at c.self.inside.holders.numbers) t.locks.items le c.self.invariant.0 there) in
    ap (λ (n : ℕ). record { locks = live c.args.moment c.end.new.locks.items; opening = t.opening; given = t.given; last = c.args.moment; spare = t.spare; kept = n; listed = listed; mapped = mapped }) c.end.ensures.len
    ∙ ap (λ (ls : List Lock). record { locks = ls; opening = t.opening; given = t.given; last = c.args.moment; spare = t.spare; kept = vec_len t.locks; listed = listed; mapped = mapped }) items
    ∙ ap (λ (s : Locks). record s { locks = released c.args.moment c.args.number c.args.touched.now Whole s.locks; last = c.args.moment; listed = listed; mapped = mapped }) c.self.view_is

pub features_of-features-requires : goal.features_of-features-requires
features_of-features-requires c = rw c.as_slice.ensures.value c.self.invariant.0.rising
