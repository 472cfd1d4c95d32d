-- The queue has an entry of each lock that has still to be ended.
use Rattle.std.proofs.Common.{◌≡◌, ℕ, ◌+◌, ◌<◌, ◌≤◌, Bool, true, false, cond, ◌||◌, List, [], ◌∷◌, ◌++◌, length, get_or, take, refl, sym, ap, subst, ◌∙◌, arith}
use Rattle.std.specs.Prelude.{◌==◌, zero, suc, slice_index_or}
use Rattle.std.specs.List.{AllByRecursion, filter, list_any}
use Rattle.std.specs.Ordering.{nat_cmp, ordering_then, is_lt}
use Rattle.std.specs.declared.cmp.Ordering.{Ordering}
use Rattle.std.specs.declared.cmp.Ordering.TheVariants.{Less, Equal, Greater}
use Rattle.std.proofs.lemmas.Cmp.{ranked}
use Rattle.lock_table.specs.Lock.{Lock}
use Rattle.lock_table.specs.Held.{is_live, live, has_number, IsRising}
use Rattle.lock_table.specs.Kept.{ended}
use Rattle.lock_table.specs.Queue.{Due, due_at, due_cmp, has_come, awaits_end, is_entry_of, is_queued, AreQueued, AreQueuedBut}
use Rattle.lock_table.specs.Steps.{changed_at}
use Rattle.lock_table.proofs.Rising.{HasNot, above, not_yet, all_weaker, all_changed, all_more}
use Rattle.lock_table.proofs.Seen.{later_ended}

-- the soonest entry

not_sooner_at : (a b : ℕ) (r o : Ordering) → r ≡ nat_cmp a b → is_lt (ordering_then r o) ≡ false → b ≤ a
not_sooner_at a b Less o e h = absurd (let bad = h in cc)
not_sooner_at a b Equal o e h = let same : a ≡ b = ranked a b Equal e in omega (arith, same)
not_sooner_at a b Greater o e h = let more : b < a = ranked a b Greater e in omega (arith, more)

pub due_behind : (moment : ℕ) (top : Due) (queue : List Due) → moment < top.0.0 → AllByRecursion (λ y. is_lt (due_cmp top y) ≡ false) queue → AllByRecursion (λ e. moment < e.0.0) queue
due_behind moment top queue lt all =
    all_weaker (λ y. is_lt (due_cmp top y) ≡ false) (λ e. moment < e.0.0) queue (λ y h. let le : top.0.0 ≤ y.0.0 = not_sooner_at y.0.0 top.0.0 (nat_cmp y.0.0 top.0.0) (nat_cmp y.0.1 top.0.1) refl h in omega (arith, lt, le)) all

pub soonest : (top : Due) (queue : List Due) → AllByRecursion (λ y. is_lt (due_cmp top y) ≡ false) queue → AllByRecursion (λ e. top.0.0 ≤ e.0.0) queue
soonest top queue all =
    all_weaker (λ y. is_lt (due_cmp top y) ≡ false) (λ e. top.0.0 ≤ e.0.0) queue (λ y h. not_sooner_at y.0.0 top.0.0 (nat_cmp y.0.0 top.0.0) (nat_cmp y.0.1 top.0.1) refl h) all

-- whether an entry has come

or_left : (a b : Bool) → (a || b) ≡ false → a ≡ false
or_left true b e = absurd (let bad = e in cc)
or_left false b e = refl

or_right : (a b : Bool) → (a || b) ≡ false → b ≡ false
or_right true b e = absurd (let bad = e in cc)
or_right false b e = e

comes_not : (moment : ℕ) (e : Due) → moment < e.0.0 → has_come moment e ≡ false
comes_not moment e lt = grind (arith, lt)

comes_later : (moment : ℕ) (e : Due) → has_come moment e ≡ false → moment < e.0.0
comes_later moment e is = grind (arith, is)

none_come : (moment : ℕ) (queue : List Due) → AllByRecursion (λ e. moment < e.0.0) queue → list_any (has_come moment) queue ≡ false
none_come moment [] all = refl
none_come moment (e ∷ es) all = rw (comes_not moment e all.0, none_come moment es all.1) refl

pub all_later : (moment : ℕ) (queue : List Due) → list_any (has_come moment) queue ≡ false → AllByRecursion (λ e. moment < e.0.0) queue
all_later moment [] none = tt
all_later moment (e ∷ es) none =
    (comes_later moment e (or_left (has_come moment e) (list_any (has_come moment) es) none), all_later moment es (or_right (has_come moment e) (list_any (has_come moment) es) none))

some_here : (a b : Bool) → a ≡ true → (a || b) ≡ true
some_here a b e = rw e refl

pub any_come : (moment : ℕ) (top : Due) (queue : List Due) (b : Bool) → has_come moment top ≡ b → top ≡ slice_index_or queue 0 top → 0 < length queue → AllByRecursion (λ y. is_lt (due_cmp top y) ≡ false) queue → b ≡ list_any (has_come moment) queue
any_come moment top [] b is at some all = absurd (omega (arith, some))
any_come moment top (e ∷ es) true is at some all = sym (some_here (has_come moment e) (list_any (has_come moment) es) (subst (λ (d : Due). has_come moment d ≡ true) at is))
any_come moment top (e ∷ es) false is at some all = sym (none_come moment (e ∷ es) (due_behind moment top (e ∷ es) (comes_later moment top is) all))

-- where no entry is due, each lock that has not been ended is live

entry_live : (moment : ℕ) (e : Due) (l : Lock) → moment < e.0.0 → is_entry_of l e ≡ true → is_live moment l ≡ true
entry_live moment e l lt is = grind (arith, lt, is)

queued_live_at : (moment : ℕ) (e : Due) (l : Lock) (b rest : Bool) → is_entry_of l e ≡ b → moment < e.0.0 → (b || rest) ≡ true → (rest ≡ true → is_live moment l ≡ true) → is_live moment l ≡ true
queued_live_at moment e l true rest is lt h later = entry_live moment e l lt is
queued_live_at moment e l false rest is lt h later = later h

pub queued_live : (moment : ℕ) (queue : List Due) (l : Lock) → AllByRecursion (λ e. moment < e.0.0) queue → is_queued queue l ≡ true → is_live moment l ≡ true
queued_live moment [] l all q = absurd (let bad = q in cc)
queued_live moment (e ∷ es) l all q = queued_live_at moment e l (is_entry_of l e) (is_queued es l) refl all.0 q (queued_live moment es l all.1)

same_liveness_at : (moment : ℕ) (l : Lock) (b : Bool) → is_live 0 l ≡ b → (b ≡ true → is_live moment l ≡ true) → is_live moment l ≡ is_live 0 l
same_liveness_at moment l true is h = h refl ∙ sym is
same_liveness_at moment l false is h = later_ended 0 moment l (omega arith) is ∙ sym is

same_filter : (p q : Lock → Bool) (locks : List Lock) → AllByRecursion (λ l. p l ≡ q l) locks → filter p locks ≡ filter q locks
same_filter p q [] all = refl
same_filter p q (l ∷ ls) all = rw (all.0, same_filter p q ls all.1) refl

pub standing_live : (moment : ℕ) (queue : List Due) (locks : List Lock) → AllByRecursion (λ e. moment < e.0.0) queue → AreQueued queue locks → live 0 locks ≡ live moment locks
standing_live moment queue locks behind queued =
    sym (same_filter (is_live moment) (is_live 0) locks (all_weaker (λ l. awaits_end l ≡ true → is_queued queue l ≡ true) (λ l. is_live moment l ≡ is_live 0 l) locks
    (λ l h. same_liveness_at moment l (is_live 0 l) refl (λ stands. queued_live moment queue l behind (h (some_here (is_live 0 l) _ stands)))) queued))

-- an entry comes, or goes

or_here : (a b : Bool) → a ≡ true → (a || b) ≡ true
or_here a b e = rw e refl

or_there : (a b : Bool) → b ≡ true → (a || b) ≡ true
or_there true b e = refl
or_there false b e = e

entry_is : (l : Lock) (deadline number : ℕ) → has_number number l ≡ true → l.deadline ≡ deadline → is_entry_of l (due_at deadline number) ≡ true
entry_is l deadline number has is = grind (arith, has, is)

entry_is_not : (l : Lock) (deadline number : ℕ) → has_number number l ≡ false → is_entry_of l (due_at deadline number) ≡ false
entry_is_not l deadline number has = let not_it : (number == l.number) ≡ false = grind (arith, has) in rw not_it refl

module _ (deadline number : ℕ) (old new : List Due) (entry : (p : Due → Bool) → list_any p new ≡ (p (due_at deadline number) || list_any p old)) where
  pub more_queued : (l : Lock) → is_queued old l ≡ true → is_queued new l ≡ true
  more_queued l q = entry (is_entry_of l) ∙ or_there (is_entry_of l (due_at deadline number)) (is_queued old l) q

  pub new_queued : (l : Lock) → has_number number l ≡ true → l.deadline ≡ deadline → is_queued new l ≡ true
  new_queued l has is = entry (is_entry_of l) ∙ or_here (is_entry_of l (due_at deadline number)) (is_queued old l) (entry_is l deadline number has is)

  pushed_at : (l : Lock) (b : Bool) → has_number number l ≡ b → (has_number number l ≡ false → awaits_end l ≡ true → is_queued old l ≡ true) → (has_number number l ≡ true → l.deadline ≡ deadline) → awaits_end l ≡ true → is_queued new l ≡ true
  pushed_at l true has but is stands = new_queued l has (is has)
  pushed_at l false has but is stands = more_queued l (but has stands)

  pub pushed : (locks : List Lock) → AllByRecursion (λ l. has_number number l ≡ true → l.deadline ≡ deadline) locks → AreQueuedBut number old locks → AreQueued new locks
  pushed [] is but = tt
  pushed (l ∷ ls) is but = (pushed_at l (has_number number l) refl but.0 is.0, pushed ls is.1 but.1)

pub popped : (deadline number : ℕ) (old new : List Due) (locks : List Lock) → ((p : Due → Bool) → list_any p old ≡ (p (due_at deadline number) || list_any p new)) → AreQueued old locks → AreQueuedBut number new locks
popped deadline number old new locks entry queued =
    all_weaker (λ l. awaits_end l ≡ true → is_queued old l ≡ true) (λ l. has_number number l ≡ false → awaits_end l ≡ true → is_queued new l ≡ true) locks
    (λ l h has stands. rw (entry (is_entry_of l), entry_is_not l deadline number has) at (h stands)) queued

-- a lock changes, or comes

pub queued_but : (number : ℕ) (queue : List Due) (locks : List Lock) → AreQueued queue locks → AreQueuedBut number queue locks
queued_but number queue locks queued = all_weaker (λ l. awaits_end l ≡ true → is_queued queue l ≡ true) (λ l. has_number number l ≡ false → awaits_end l ≡ true → is_queued queue l ≡ true) locks (λ l h has. h) queued

pub changed_but : (number : ℕ) (change : Lock → Lock) (queue : List Due) (locks : List Lock) → ((l : Lock) → (change l).number ≡ l.number) → AreQueuedBut number queue locks → AreQueuedBut number queue (changed_at number change locks)
changed_but number change queue locks same but =
    all_changed (λ l. has_number number l ≡ false → awaits_end l ≡ true → is_queued queue l ≡ true) (λ l. has_number number l ≡ false → awaits_end l ≡ true → is_queued queue l ≡ true) number change locks
    (λ l e h not_it. absurd (let bad : has_number number (change l) ≡ true = ap (λ (n : ℕ). n == number) (same l) ∙ e in let worse = sym not_it ∙ bad in cc)) (λ l e h. h) but

never_awaits : (l : Lock) → awaits_end (ended l) ≡ true → ⊥
never_awaits l e = let bad = e in cc

pub ended_queued : (number : ℕ) (queue : List Due) (locks : List Lock) → AreQueuedBut number queue locks → AreQueued queue (changed_at number ended locks)
ended_queued number queue locks but =
    all_changed (λ l. has_number number l ≡ false → awaits_end l ≡ true → is_queued queue l ≡ true) (λ l. awaits_end l ≡ true → is_queued queue l ≡ true) number ended locks (λ l e h awaits. absurd (never_awaits l awaits)) (λ l e h. h e) but

itself : (n : ℕ) → (n == n) ≡ true
itself n = grind arith

pub new_but : (new : Lock) (queue : List Due) (locks : List Lock) → AreQueued queue locks → AreQueuedBut new.number queue (locks ++ new ∷ [])
new_but new queue locks queued =
    all_more (λ l. has_number new.number l ≡ false → awaits_end l ≡ true → is_queued queue l ≡ true) locks new (queued_but new.number queue locks queued) (λ not_it. absurd (let bad = sym not_it ∙ itself new.number in cc))

-- the deadline at a place is that of the lock with the number there

same_deadline : (l : Lock) (ls : List Lock) (number : ℕ) → AllByRecursion (HasNot number) ls → AllByRecursion (λ m. has_number number m ≡ true → m.deadline ≡ l.deadline) ls
same_deadline l ls number none = all_weaker (HasNot number) (λ m. has_number number m ≡ true → m.deadline ≡ l.deadline) ls (λ m has_not has. absurd (let bad = sym has_not ∙ has in cc)) none

pub deadline_at : (number low : ℕ) (locks : List Lock) (i : ℕ) (d : Lock) → IsRising low locks → i < length locks → (get_or locks i d).number ≡ number → AllByRecursion (λ m. has_number number m ≡ true → m.deadline ≡ (get_or locks i d).deadline) locks
deadline_at number low [] i d r lt e = absurd (omega (arith, lt))
deadline_at number low (l ∷ ls) zero d r lt e = ((λ _. refl), same_deadline l ls number (above l.number ls r.1 number (omega (arith, e))))
deadline_at number low (l ∷ ls) (suc i) d r lt e =
    let no : has_number number l ≡ false = not_yet l ls i d number r.1 (omega (arith, lt)) e in
    ((λ has. absurd (let bad = sym no ∙ has in cc)), deadline_at number l.number ls i d r.1 (omega (arith, lt)) e)

pub none_noted : (number : ℕ) (queue : List Due) (locks : List Lock) → AllByRecursion (HasNot number) locks → AreQueuedBut number queue locks → AreQueued queue locks
none_noted number queue [] none but = tt
none_noted number queue (l ∷ ls) none but = (but.0 none.0, none_noted number queue ls none.1 but.1)

-- one more of the locks gone through

pub all_taken_more : {X : Type 0} (P : X → Type 0) (xs : List X) (i : ℕ) (d : X) → i < length xs → AllByRecursion P (take i xs) → P (get_or xs i d) → AllByRecursion P (take (i + 1) xs)
all_taken_more P [] i d lt all here = absurd (omega (arith, lt))
all_taken_more P (x ∷ xs) zero d lt all here = (here, tt)
all_taken_more P (x ∷ xs) (suc i) d lt all here = let one : suc i + 1 ≡ suc (i + 1) = omega arith in rw one (all.0, all_taken_more P xs i d (omega (arith, lt)) all.1 here)

-- how many entries have come

come_not : (moment deadline number : ℕ) (l : Lock) → is_live moment l ≡ true → deadline ≡ l.deadline → has_come moment (due_at deadline number) ≡ false
come_not moment deadline number l live is = grind (arith, live, is)

pub later_count : (moment deadline number before after : ℕ) (l : Lock) → is_live moment l ≡ true → deadline ≡ l.deadline → after ≡ cond (has_come moment (due_at deadline number)) 1 0 + before → after ≡ before
later_count moment deadline number before after l live is e = let same = rw (come_not moment deadline number l live is) at e in omega (arith, same)

top_come : (moment deadline number : ℕ) (queue : List Due) (b : Bool) → has_come moment (due_at deadline number) ≡ b → AllByRecursion (λ e. deadline ≤ e.0.0) queue → (has_come moment (due_at deadline number) || list_any (has_come moment) queue) ≡ true → b ≡ true
top_come moment deadline number queue true is behind e = refl
top_come moment deadline number queue false is behind e =
    let lt : moment < deadline = comes_later moment (due_at deadline number) is in
    let none = none_come moment queue (all_weaker (λ d. deadline ≤ d.0.0) (λ d. moment < d.0.0) queue (λ d le. omega (arith, lt, le)) behind) in
    absurd (let bad = rw (is, none) at e in cc)

-- where some entry has come, the soonest one has
pub less_due : (moment deadline number before after : ℕ) (queue : List Due) → AllByRecursion (λ e. deadline ≤ e.0.0) queue → (has_come moment (due_at deadline number) || list_any (has_come moment) queue) ≡ true
    → after + cond (has_come moment (due_at deadline number)) 1 0 ≡ before → after + 1 ≡ before
less_due moment deadline number before after queue behind some e = rw (top_come moment deadline number queue (has_come moment (due_at deadline number)) refl behind some) at e
