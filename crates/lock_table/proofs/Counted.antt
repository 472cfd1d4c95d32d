-- How many of the kept locks have not been ended.
use Rattle.std.proofs.Common.{◌≡◌, ℕ, ◌+◌, ◌≤◌, Bool, true, false, cond, ◌&&◌, ◌||◌, List, [], ◌∷◌, ◌++◌, length, refl, sym, ap, subst, ◌∙◌, arith}
use Rattle.std.specs.Prelude.{◌==◌, suc, nat_lt, if◌then◌else◌}
use Rattle.std.specs.List.{AllByRecursion}
use Rattle.lock_table.specs.Lock.{Lock}
use Rattle.lock_table.specs.Held.{is_live, live, has_number, is_live_number, IsRising}
use Rattle.lock_table.specs.Kept.{ended}
use Rattle.lock_table.specs.Steps.{changed_at}
use Rattle.lock_table.proofs.Rising.{HasNot, above, none_changed, live_here, is_number_of}

abbrev pub one_if : Bool → ℕ
one_if b = cond b 1 0

one_here : (a b : Bool) (x y : Lock) (xs : List Lock) → length (cond b (y ∷ xs) xs) + one_if a ≡ length (cond a (x ∷ xs) xs) + one_if b
one_here true true x y xs = refl
one_here true false x y xs = omega arith
one_here false true x y xs = omega arith
one_here false false x y xs = refl

one_before : (b : Bool) (x : Lock) (xs ys : List Lock) (m n : ℕ) → length ys + m ≡ length xs + n → length (cond b (x ∷ ys) ys) + m ≡ length (cond b (x ∷ xs) xs) + n
one_before true x xs ys m n e = omega (arith, e)
one_before false x xs ys m n e = e

counted_at : (number : ℕ) (change : Lock → Lock) (l : Lock) (ls : List Lock) (b : Bool) → has_number number l ≡ b → ((m : Lock) → (change m).number ≡ m.number) → IsRising l.number ls
    → (length (live 0 (changed_at number change ls)) + one_if (is_live_number ls 0 number) ≡ length (live 0 ls) + one_if (is_live_number (changed_at number change ls) 0 number))
    → length (live 0 (changed_at number change (l ∷ ls))) + one_if (is_live_number (l ∷ ls) 0 number) ≡ length (live 0 (l ∷ ls)) + one_if (is_live_number (changed_at number change (l ∷ ls)) 0 number)
counted_at number change l ls true has same r more =
    let none : AllByRecursion (HasNot number) ls = above l.number ls r number (omega (arith, is_number_of l.number number has)) in
    let still : has_number number (change l) ≡ true = ap (λ (n : ℕ). n == number) (same l) ∙ has in
    let before : is_live_number (l ∷ ls) 0 number ≡ is_live 0 l = live_here 0 number l ls has none in
    let after : is_live_number (change l ∷ ls) 0 number ≡ is_live 0 (change l) = live_here 0 number (change l) ls still none in
    let here : length (live 0 (change l ∷ ls)) + one_if (is_live_number (l ∷ ls) 0 number) ≡ length (live 0 (l ∷ ls)) + one_if (is_live_number (change l ∷ ls) 0 number) = rw (before, after) (one_here (is_live 0 l) (is_live 0 (change l)) l (change l) (live 0 ls)) in
    let is : changed_at number change (l ∷ ls) ≡ change l ∷ ls = rw (has, none_changed number change ls none) refl in
    subst (λ (xs : List Lock). length (live 0 xs) + one_if (is_live_number (l ∷ ls) 0 number) ≡ length (live 0 (l ∷ ls)) + one_if (is_live_number xs 0 number)) (sym is) here
counted_at number change l ls false has same r more =
    let is : changed_at number change (l ∷ ls) ≡ l ∷ changed_at number change ls = rw has refl in
    let before : is_live_number (l ∷ ls) 0 number ≡ is_live_number ls 0 number = rw has refl in
    let after : is_live_number (l ∷ changed_at number change ls) 0 number ≡ is_live_number (changed_at number change ls) 0 number = rw has refl in
    subst (λ (xs : List Lock). length (live 0 xs) + one_if (is_live_number (l ∷ ls) 0 number) ≡ length (live 0 (l ∷ ls)) + one_if (is_live_number xs 0 number)) (sym is)
    (rw (before, after) (one_before (is_live 0 l) l (live 0 ls) (live 0 (changed_at number change ls)) (one_if (is_live_number ls 0 number)) (one_if (is_live_number (changed_at number change ls) 0 number)) more))

pub counted : (number low : ℕ) (change : Lock → Lock) (locks : List Lock) → ((m : Lock) → (change m).number ≡ m.number) → IsRising low locks
    → length (live 0 (changed_at number change locks)) + one_if (is_live_number locks 0 number) ≡ length (live 0 locks) + one_if (is_live_number (changed_at number change locks) 0 number)
counted number low change [] same r = refl
counted number low change (l ∷ ls) same r = counted_at number change l ls (has_number number l) refl same r.1 (counted number l.number change ls same r.1)

-- a lock that is live has not been ended
either_as : (a b c d : Bool) → (a ≡ true → c ≡ true) → (b ≡ true → d ≡ true) → (a || b) ≡ true → (c || d) ≡ true
either_as true b true d f g e = refl
either_as true b false d f g e = absurd (let bad = f refl in cc)
either_as false b true d f g e = refl
either_as false b false d f g e = g e

and_as : (a b c : Bool) → (b ≡ true → c ≡ true) → (a && b) ≡ true → (a && c) ≡ true
and_as true b c h e = h e
and_as false b c h e = e

stands_if_live : (moment : ℕ) (l : Lock) → is_live moment l ≡ true → is_live 0 l ≡ true
stands_if_live moment l e = grind (arith, e)

pub stands : (moment number : ℕ) (locks : List Lock) → is_live_number locks moment number ≡ true → is_live_number locks 0 number ≡ true
stands moment number [] e = e
stands moment number (l ∷ ls) e = either_as (has_number number l && is_live moment l) (is_live_number ls moment number) (has_number number l && is_live 0 l) (is_live_number ls 0 number)
    (and_as (has_number number l) (is_live moment l) (is_live 0 l) (stands_if_live moment l)) (stands moment number ls) e

-- a lock more
one_more_at : (b : Bool) (l : Lock) (xs ys : List Lock) (n : ℕ) → length ys ≡ length xs + n → length (cond b (l ∷ ys) ys) ≡ length (cond b (l ∷ xs) xs) + n
one_more_at true l xs ys n e = omega (arith, e)
one_more_at false l xs ys n e = e

last_one : (b : Bool) (l : Lock) → length (cond b (l ∷ []) []) ≡ one_if b
last_one true l = refl
last_one false l = refl

pub one_more : (new : Lock) (locks : List Lock) → length (live 0 (locks ++ new ∷ [])) ≡ length (live 0 locks) + one_if (is_live 0 new)
one_more new [] = let here = last_one (is_live 0 new) new in omega (arith, here)
one_more new (l ∷ ls) = one_more_at (is_live 0 l) l (live 0 ls) (live 0 (ls ++ new ∷ [])) (one_if (is_live 0 new)) (one_more new ls)

-- there are no more than were granted
pub few : (low given : ℕ) (locks : List Lock) → IsRising low locks → AllByRecursion (λ l. l.number ≤ given) locks → low ≤ given → low + length locks ≤ given
few low given [] r all le = omega (arith, le)
few low given (l ∷ ls) r all le = let more : l.number + length ls ≤ given = few l.number given ls r.1 all.1 all.0 in omega (arith, more, r.0)

no_more_at : (b : Bool) (l : Lock) (xs ys : List Lock) → length ys ≤ length xs → length (cond b (l ∷ ys) ys) ≤ suc (length xs)
no_more_at true l xs ys le = omega (arith, le)
no_more_at false l xs ys le = omega (arith, le)

pub no_more : (moment : ℕ) (locks : List Lock) → length (live moment locks) ≤ length locks
no_more moment [] = omega arith
no_more moment (l ∷ ls) = no_more_at (is_live moment l) l ls (live moment ls) (no_more moment ls)

-- those that are live have not been ended
kept_live_at : (last : ℕ) (l : Lock) (seen : List Lock) (a : Bool) → is_live last l ≡ a → live 0 seen ≡ seen → live 0 (cond a (l ∷ seen) seen) ≡ cond a (l ∷ seen) seen
kept_live_at last l seen true is e = rw (stands_if_live last l is, e) refl
kept_live_at last l seen false is e = e

pub kept_live : (last : ℕ) (locks : List Lock) → live 0 (live last locks) ≡ live last locks
kept_live last [] = refl
kept_live last (l ∷ ls) = kept_live_at last l (live last ls) (is_live last l) refl (kept_live last ls)

-- a lock that is live no more is ended with no change to those that are live
never : (moment : ℕ) → nat_lt moment 0 ≡ false
never moment = grind arith

or_left : (a b c : Bool) → a ≡ true → ((a && b) || c) ≡ false → b ≡ false
or_left true true c e h = absurd (let bad = h in cc)
or_left true false c e h = refl
or_left false b c e h = absurd (let bad = e in cc)

ended_dead_at : (last number : ℕ) (l : Lock) (seen rest : List Lock) (b : Bool) → has_number number l ≡ b → is_live_number (l ∷ rest) last number ≡ false → live last seen ≡ live last rest → live last ((if b then ended l else l) ∷ seen) ≡ live last (l ∷ rest)
ended_dead_at last number l seen rest true has dead e = rw (never last, or_left (has_number number l) (is_live last l) (is_live_number rest last number) has dead) e
ended_dead_at last number l seen rest false has dead e = rw e refl

or_right : (a b : Bool) → (a || b) ≡ false → b ≡ false
or_right true b e = absurd (let bad = e in cc)
or_right false b e = e

pub ended_dead : (last number : ℕ) (locks : List Lock) → is_live_number locks last number ≡ false → live last (changed_at number ended locks) ≡ live last locks
ended_dead last number [] dead = refl
ended_dead last number (l ∷ ls) dead =
    ended_dead_at last number l (changed_at number ended ls) ls (has_number number l) refl dead (ended_dead last number ls (or_right (has_number number l && is_live last l) (is_live_number ls last number) dead))

pub at_most_one : (b : Bool) → one_if b ≤ 1
at_most_one true = omega arith
at_most_one false = omega arith
