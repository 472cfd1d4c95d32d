use Rattle.std.proofs.Common.{◌≡◌, ℕ, ◌∙◌, get_or, subst, ap, sym, true}
use Rattle.std.specs.BinaryHeap.{heap_items}
use Rattle.std.specs.List.{AllByRecursion}
use Rattle.lock_table.specs.Held.{has_number}
use Rattle.lock_table.specs.Lock.{Lock}
use Rattle.lock_table.specs.Queue.{has_come}
use Rattle.lock_table.proofs.Queued.{pushed, deadline_at, none_noted, later_count}
use Rattle.lock_table.proofs.Rising.{live_at}
use Rattle.lock_table.proofs.noted.note_one.Goals as goal

pub returns-in-Some-clause-queued : goal.returns-in-Some-clause-queued
returns-in-Some-clause-queued c =
    let there = c.index-locks-i.result in
    let same = deadline_at c.args.number 0 c.args.locks.now c.in-Some.i there c.requires.rising c.in-Some.ensures.0 (c.in-Some.ensures.1 there) in
    let is = subst (λ (d : ℕ). AllByRecursion (λ m. has_number c.args.number m ≡ true → m.deadline ≡ d) c.args.locks.now) (sym (c.deadline.ensures ∙ ap (λ (l : Lock). l.deadline) c.index-locks-i.is)) same in
    pushed c.deadline.result c.args.number (heap_items c.args.deadlines.now.queue) (heap_items c.push.new.self.queue) c.push.ensures.entry c.args.locks.now is

pub returns-in-Some-clause-later : goal.returns-in-Some-clause-later
returns-in-Some-clause-later c = λ moment live.
    let there = c.index-locks-i.result in
    let is = sym (live_at moment c.args.number 0 c.args.locks.now c.in-Some.i there c.requires.rising c.in-Some.ensures.0 (c.in-Some.ensures.1 there)) ∙ live in
    later_count moment c.deadline.result c.args.number _ _ (get_or c.args.locks.now c.in-Some.i there) is (c.deadline.ensures ∙ ap (λ (l : Lock). l.deadline) c.index-locks-i.is) (c.push.ensures.count (has_come moment))

pub returns-in-None-clause-queued : goal.returns-in-None-clause-queued
returns-in-None-clause-queued c = none_noted c.args.number (heap_items c.args.deadlines.now.queue) c.args.locks.now c.in-None.ensures
