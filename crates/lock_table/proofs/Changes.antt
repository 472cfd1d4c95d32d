-- What a change of one lock leaves of the list, the queue and the count.
use Rattle.std.proofs.Common.{◌≡◌, ℕ, ◌+◌, ◌≤◌, Bool, true, false, ◌&&◌, ◌||◌, List, [], ◌∷◌, length, refl, sym, ap, subst, ◌∙◌, arith}
use Rattle.std.specs.Prelude.{if◌then◌else◌}
use Rattle.lock_table.specs.Lock.{Lock}
use Rattle.lock_table.specs.Held.{is_live, live, is_live_number, has_number, IsRising}
use Rattle.lock_table.specs.Kept.{ended}
use Rattle.lock_table.specs.Queue.{Due, AreQueued, AreQueuedBut}
use Rattle.lock_table.specs.Steps.{changed_at}
use Rattle.lock_table.proofs.Counted.{one_if, counted}
use Rattle.lock_table.proofs.Queued.{queued_but, changed_but, ended_queued}
use Rattle.lock_table.proofs.Rising.{rising_changed}
use Rattle.lock_table.proofs.Seen.{never}

some_if : (b : Bool) (after before : ℕ) → after + 1 ≡ before + one_if b → b ≡ false → 1 ≤ before
some_if b after before e is = let same : after + 1 ≡ before + 0 = rw is at e in omega (arith, same)

module _ (number : ℕ) (change : Lock → Lock) (same : (l : Lock) → (change l).number ≡ l.number) (locks : List Lock) (rising : IsRising 0 locks) where
  pub rising_after : (slice : List Lock) → slice ≡ changed_at number change locks → IsRising 0 slice
  rising_after slice is = subst (IsRising 0) (sym is) (rising_changed 0 number change locks same rising)

  pub queued_after : (old new : List Due) (slice after : List Lock) → slice ≡ changed_at number change locks → after ≡ changed_at number change locks → (AreQueuedBut number old slice → AreQueued new slice) → AreQueued old locks → AreQueued new after
  queued_after old new slice after is also note queued =
      subst (AreQueued new) (is ∙ sym also) (note (subst (AreQueuedBut number old) (sym is) (changed_but number change old locks same (queued_but number old locks queued))))

  one_changed : is_live_number locks 0 number ≡ true → length (live 0 (changed_at number change locks)) + 1 ≡ length (live 0 locks) + one_if (is_live_number (changed_at number change locks) 0 number)
  one_changed stood = rw stood at (counted number 0 change locks same rising)

  pub some_stand : (count : ℕ) (slice : List Lock) → slice ≡ changed_at number change locks → count ≡ length (live 0 locks) → is_live_number locks 0 number ≡ true → is_live_number slice 0 number ≡ false → 1 ≤ count
  some_stand count slice is count_is stood none =
      subst (λ (n : ℕ). 1 ≤ n) (sym count_is) (some_if (is_live_number (changed_at number change locks) 0 number) (length (live 0 (changed_at number change locks))) (length (live 0 locks)) (one_changed stood) (subst (λ (ls : List Lock). is_live_number ls 0 number ≡ false) is none))

  pub count_after : (count result : ℕ) (slice after : List Lock) → slice ≡ changed_at number change locks → after ≡ changed_at number change locks → count ≡ length (live 0 locks) → is_live_number locks 0 number ≡ true
      → result + 1 ≡ count + one_if (is_live_number slice 0 number) → result ≡ length (live 0 after)
  count_after count result slice after is also count_is stood left =
      let there : result + 1 ≡ length (live 0 locks) + one_if (is_live_number (changed_at number change locks) 0 number) = left ∙ ap (λ (n : ℕ). n + one_if (is_live_number slice 0 number)) count_is ∙ ap (λ (ls : List Lock). length (live 0 locks) + one_if (is_live_number ls 0 number)) is in
      let here : result ≡ length (live 0 (changed_at number change locks)) = omega (arith, there, one_changed stood) in
      here ∙ ap (λ (ls : List Lock). length (live 0 ls)) (sym also)

pub queued_ended : (number : ℕ) (queue : List Due) (locks after : List Lock) → after ≡ changed_at number ended locks → AreQueuedBut number queue locks → AreQueued queue after
queued_ended number queue locks after is but = subst (AreQueued queue) (sym is) (ended_queued number queue locks but)

neither : (a b : Bool) → a ≡ false → b ≡ false → (a || b) ≡ false
neither a b e f = rw (e, f) refl

none_after_at : (moment number : ℕ) (l : Lock) (rest b : Bool) → has_number number l ≡ b → rest ≡ false → ((has_number number (if b then ended l else l) && is_live moment (if b then ended l else l)) || rest) ≡ false
none_after_at moment number l rest true has none = rw has (neither (is_live moment (ended l)) rest (never moment l) none)
none_after_at moment number l rest false has none = rw has none

none_after : (moment number : ℕ) (locks : List Lock) → is_live_number (changed_at number ended locks) moment number ≡ false
none_after moment number [] = refl
none_after moment number (l ∷ ls) = none_after_at moment number l (is_live_number (changed_at number ended ls) moment number) (has_number number l) refl (none_after moment number ls)

module _ (number count : ℕ) (locks slice : List Lock) (rising : IsRising 0 locks) (is : slice ≡ locks) (count_is : count ≡ length (live 0 locks)) where
  ended_one : length (live 0 (changed_at number ended locks)) + one_if (is_live_number locks 0 number) ≡ length (live 0 locks)
  ended_one = let more = rw (none_after 0 number locks) at (counted number 0 ended locks (λ l. refl) rising) in omega (arith, more)

  pub one_stands : is_live_number slice 0 number ≡ true → 1 ≤ count
  one_stands stood = let here : is_live_number locks 0 number ≡ true = subst (λ (ls : List Lock). is_live_number ls 0 number ≡ true) is stood in let one = rw here at ended_one in omega (arith, one, count_is)

  pub ended_count : (result : ℕ) (after : List Lock) → after ≡ changed_at number ended locks → result + one_if (is_live_number slice 0 number) ≡ count → result ≡ length (live 0 after)
  ended_count result after also left =
      let here = subst (λ (ls : List Lock). result + one_if (is_live_number ls 0 number) ≡ count) is left in
      subst (λ (ls : List Lock). result ≡ length (live 0 ls)) (sym also) (omega (arith, here, ended_one, count_is))
