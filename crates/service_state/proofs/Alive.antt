-- How many locks are live after work on them, and that their numbers rise.
use Rattle.std.proofs.Common.{◌≡◌, ℕ, ◌+◌, ◌≤◌, Bool, true, false, cond, not, ◌&&◌, List, [], ◌∷◌, ◌++◌, length, refl, arith}
use Rattle.std.specs.Prelude.{◌==◌, nat_lt, if◌then◌else◌, Option}
use Rattle.std.specs.List.{AllByRecursion, filter}
use Rattle.feature_values.specs.declared.feature.Rid.{Rid}
use Rattle.lock_table.specs.declared.words.Release.{Release}
use Rattle.lock_table.specs.declared.words.Release.TheVariants.{Whole, Touched}
use Rattle.lock_table.specs.Lock.{Lock}
use Rattle.lock_table.specs.Held.{is_live, live, has_number, is_live_number, IsRising, AreNumbered}
use Rattle.lock_table.specs.Steps.{new_lock, granted, renewed_lock, changed_at, renewed, without, released}
use Rattle.lock_table.proofs.Rising.{IsLiveAs, all_weaker, all_filter, live_one, rising_changed, rising_filter, rising_more, all_changed, all_more}
use Rattle.lock_table.proofs.Seen.{live_seen}

-- ---- fewer

abbrev one_if : Bool → ℕ
one_if b = cond b 1 0

fewer_at : (b : Bool) (l : Lock) (xs ys : List Lock) → length xs ≤ length ys → length (cond b (l ∷ xs) xs) ≤ length (cond b (l ∷ ys) ys)
fewer_at true l xs ys le = omega (arith, le)
fewer_at false l xs ys le = le

-- a lock more before, and it may be there still
kept_at : (b : Bool) (l m : Lock) (xs ys : List Lock) → length xs ≤ length ys → length (cond b (l ∷ xs) xs) ≤ length (m ∷ ys)
kept_at true l m xs ys le = omega (arith, le)
kept_at false l m xs ys le = omega (arith, le)

-- those that are left of some are no more live ones
left_at : (moment : ℕ) (l : Lock) (xs ys : List Lock) (b : Bool) → length (live moment xs) ≤ length (live moment ys) → length (live moment (cond b (l ∷ xs) xs)) ≤ length (live moment (l ∷ ys))
left_at moment l xs ys true le = fewer_at (is_live moment l) l (live moment xs) (live moment ys) le
left_at moment l xs ys false le = more (is_live moment l)
  where
    more : (b : Bool) → length (live moment xs) ≤ length (cond b (l ∷ live moment ys) (live moment ys))
    more true = omega (arith, le)
    more false = le

left_alive : (moment : ℕ) (q : Lock → Bool) (locks : List Lock) → length (live moment (filter q locks)) ≤ length (live moment locks)
left_alive moment q [] = omega arith
left_alive moment q (l ∷ ls) = left_at moment l (filter q ls) ls (q l) (left_alive moment q ls)

-- a change of a live lock makes no more of them live
changed_one : (moment number : ℕ) (change : Lock → Lock) (l : Lock) (xs ys : List Lock) (b : Bool) → has_number number l ≡ b → IsLiveAs moment number l → length (live moment xs) ≤ length (live moment ys)
    → length (live moment ((if b then change l else l) ∷ xs)) ≤ length (live moment (l ∷ ys))
changed_one moment number change l xs ys true has alive le = rw (alive has) (kept_at (is_live moment (change l)) (change l) l (live moment xs) (live moment ys) le)
changed_one moment number change l xs ys false has alive le = fewer_at (is_live moment l) l (live moment xs) (live moment ys) le

changed_alive : (moment number : ℕ) (change : Lock → Lock) (locks : List Lock) → AllByRecursion (IsLiveAs moment number) locks → length (live moment (changed_at number change locks)) ≤ length (live moment locks)
changed_alive moment number change [] alive = omega arith
changed_alive moment number change (l ∷ ls) alive = changed_one moment number change l (changed_at number change ls) ls (has_number number l) refl alive.0 (changed_alive moment number change ls alive.1)

live_twice : (moment : ℕ) (locks : List Lock) → live moment (live moment locks) ≡ live moment locks
live_twice moment locks = live_seen moment moment locks (omega arith)

pub renewed_alive : (moment number : ℕ) (period : Option ℕ) (locks : List Lock) → IsRising 0 locks → is_live_number locks moment number ≡ true → length (live moment (renewed moment number period locks)) ≤ length (live moment locks)
renewed_alive moment number period locks rising alive =
    rw (live_twice moment (changed_at number (renewed_lock moment period) locks)) (changed_alive moment number (renewed_lock moment period) locks (live_one moment number 0 locks rising alive))

pub released_alive : (moment number : ℕ) (touched : List Rid) (how : Release) (locks : List Lock) → IsRising 0 locks → is_live_number locks moment number ≡ true → length (live moment (released moment number touched how locks)) ≤ length (live moment locks)
unfolding released
released_alive moment number touched Whole locks rising alive =
    rw (live_twice moment (filter (λ lock. not (has_number number lock)) locks)) (left_alive moment (λ lock. not (has_number number lock)) locks)
released_alive moment number touched Touched locks rising alive =
    let changed : List Lock = changed_at number (without moment touched) locks in
    let fewer : length (live moment changed) ≤ length (live moment locks) = changed_alive moment number (without moment touched) locks (live_one moment number 0 locks rising alive) in
    let left : length (live moment (filter (λ lock. not (has_number number lock && (length lock.features == 0))) changed)) ≤ length (live moment changed) = left_alive moment (λ lock. not (has_number number lock && (length lock.features == 0))) changed in
    rw (live_twice moment (filter (λ lock. not (has_number number lock && (length lock.features == 0))) changed)) (omega (arith, fewer, left))

-- ---- one more

last_at : (b : Bool) (l : Lock) → length (cond b (l ∷ []) []) ≡ one_if b
last_at true l = refl
last_at false l = refl

more_at : (b : Bool) (l : Lock) (xs ys : List Lock) (n : ℕ) → length ys ≡ length xs + n → length (cond b (l ∷ ys) ys) ≡ length (cond b (l ∷ xs) xs) + n
more_at true l xs ys n e = omega (arith, e)
more_at false l xs ys n e = e

one_more : (moment : ℕ) (new : Lock) (locks : List Lock) → length (live moment (locks ++ new ∷ [])) ≡ length (live moment locks) + one_if (is_live moment new)
one_more moment new [] = let here = last_at (is_live moment new) new in omega (arith, here)
one_more moment new (l ∷ ls) = more_at (is_live moment l) l (live moment ls) (live moment (ls ++ new ∷ [])) (one_if (is_live moment new)) (one_more moment new ls)

later : (moment period : ℕ) → nat_lt moment (moment + period) ≡ nat_lt 0 period
later moment period = grind arith

-- a lock that is granted for some time is one more
pub granted_alive : (moment given period : ℕ) (features : List Rid) (locks : List Lock) → length (live moment (granted moment given features period locks)) ≡ length (live moment locks) + one_if (nat_lt 0 period)
granted_alive moment given period features locks =
    let new : Lock = new_lock given features moment period in
    rw (live_twice moment (locks ++ new ∷ []), ← later moment period) (one_more moment new locks)

-- ---- numbers

pub granted_numbered : (moment given period : ℕ) (features : List Rid) (locks : List Lock) → AreNumbered given locks → AreNumbered (given + 1) (granted moment given features period locks)
granted_numbered moment given period features locks are =
    let new : Lock = new_lock given features moment period in
    record {
      rising = rising_filter 0 (is_live moment) (locks ++ new ∷ []) (rising_more 0 given new locks (omega arith) refl are.counted are.rising);
      counted = all_filter (λ l. l.number ≤ given + 1) (is_live moment) (locks ++ new ∷ []) (all_more (λ l. l.number ≤ given + 1) locks new (all_weaker (λ l. l.number ≤ given) (λ l. l.number ≤ given + 1) locks (λ l le. omega (arith, le)) are.counted) (omega arith));
    }

changed_numbered : (given number : ℕ) (change : Lock → Lock) (locks : List Lock) → ((l : Lock) → (change l).number ≡ l.number) → AreNumbered given locks → AreNumbered given (changed_at number change locks)
changed_numbered given number change locks same are =
    record {
      rising = rising_changed 0 number change locks same are.rising;
      counted = all_changed (λ l. l.number ≤ given) (λ l. l.number ≤ given) number change locks (λ l has le. rw (same l) le) (λ l has le. le) are.counted;
    }

filter_numbered : (given : ℕ) (q : Lock → Bool) (locks : List Lock) → AreNumbered given locks → AreNumbered given (filter q locks)
filter_numbered given q locks are = record { rising = rising_filter 0 q locks are.rising; counted = all_filter (λ l. l.number ≤ given) q locks are.counted }

pub renewed_numbered : (moment given number : ℕ) (period : Option ℕ) (locks : List Lock) → AreNumbered given locks → AreNumbered given (renewed moment number period locks)
renewed_numbered moment given number period locks are =
    filter_numbered given (is_live moment) (changed_at number (renewed_lock moment period) locks) (changed_numbered given number (renewed_lock moment period) locks (λ l. refl) are)

pub released_numbered : (moment given number : ℕ) (touched : List Rid) (how : Release) (locks : List Lock) → AreNumbered given locks → AreNumbered given (released moment number touched how locks)
unfolding released
released_numbered moment given number touched Whole locks are =
    filter_numbered given (is_live moment) (filter (λ lock. not (has_number number lock)) locks) (filter_numbered given (λ lock. not (has_number number lock)) locks are)
released_numbered moment given number touched Touched locks are =
    let changed : List Lock = changed_at number (without moment touched) locks in
    filter_numbered given (is_live moment) (filter (λ lock. not (has_number number lock && (length lock.features == 0))) changed)
    (filter_numbered given (λ lock. not (has_number number lock && (length lock.features == 0))) changed (changed_numbered given number (without moment touched) locks (λ l. refl) are))
