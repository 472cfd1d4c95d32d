-- The queue of deadlines: pairs of a moment and the number of a lock that may have ended by then.
use Rattle.std.specs.Prelude.{◌≡◌, ℕ, Bool, true, false, ◌==◌, ◌&&◌, ◌||◌, not, nat_lt, List, length}
use Rattle.std.specs.List.{AllByRecursion, list_any, count_by}
use Rattle.std.specs.Ordering.{nat_cmp, ordering_then}
use Rattle.std.specs.declared.cmp.Ordering.{Ordering}
use Rattle.std.specs.declared.cmp.Reverse.{Reverse}
use Rattle.lock_table.specs.Lock.{Lock}
use Rattle.lock_table.specs.Held.{is_live, has_number}

abbrev pub Due : Type 0
Due = Reverse (ℕ × ℕ)

abbrev pub due_at : ℕ → ℕ → Due
due_at moment number = record { 0 = (moment, number) }

-- the sooner entry is the greater
abbrev pub due_cmp : Due → Due → Ordering
due_cmp a b = ordering_then (nat_cmp b.0.0 a.0.0) (nat_cmp b.0.1 a.0.1)

-- whether the moment of an entry has come
abbrev pub has_come : ℕ → Due → Bool
has_come moment entry = not (nat_lt moment entry.0.0)

-- how many entries have come
abbrev pub due_count : ℕ → List Due → ℕ
due_count moment queue = count_by (has_come moment) queue

-- whether a lock has still to be ended: it may be live yet, or lists features
abbrev pub awaits_end : Lock → Bool
awaits_end lock = is_live 0 lock || not (length lock.features == 0)

-- whether an entry is a lock's, at its deadline or before
abbrev pub is_entry_of : Lock → Due → Bool
is_entry_of lock entry = (entry.0.1 == lock.number) && not (nat_lt lock.deadline entry.0.0)

abbrev pub is_queued : List Due → Lock → Bool
is_queued queue lock = list_any (is_entry_of lock) queue

-- each lock that has still to be ended is queued
abbrev pub AreQueued : List Due → List Lock → Type 0
AreQueued queue locks = AllByRecursion (λ lock. awaits_end lock ≡ true → is_queued queue lock ≡ true) locks

-- the same of all but the lock with a number
abbrev pub AreQueuedBut : ℕ → List Due → List Lock → Type 0
AreQueuedBut number queue locks = AllByRecursion (λ lock. has_number number lock ≡ false → awaits_end lock ≡ true → is_queued queue lock ≡ true) locks
