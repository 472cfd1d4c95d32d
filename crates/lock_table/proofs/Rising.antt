-- Locks whose numbers rise: a number is that of at most one of them.
use Rattle.std.proofs.Common.{◌≡◌, ℕ, ◌+◌, ◌<◌, ◌≤◌, Bool, true, false, cond, ◌&&◌, ◌||◌, List, [], ◌∷◌, ◌++◌, length, get_or, refl, sym, ap, subst, ◌∙◌, arith}
use Rattle.std.specs.Prelude.{◌==◌, zero, suc, if◌then◌else◌, slice_set}
use Rattle.std.specs.List.{AllByRecursion, filter}
use Rattle.lock_table.specs.Lock.{Lock}
use Rattle.lock_table.specs.Held.{first_of, is_live, has_number, is_live_number, features_of, IsRising}
use Rattle.lock_table.specs.Steps.{changed_at}

-- none has a number

abbrev pub HasNot : ℕ → Lock → Type 0
HasNot number lock = has_number number lock ≡ false

apart : (a b : ℕ) → b < a → (a == b) ≡ false
apart a b lt = grind (arith, lt)

pub is_number_of : (a b : ℕ) → (a == b) ≡ true → a ≡ b
is_number_of a b e = grind (arith, e)

pub above : (low : ℕ) (locks : List Lock) → IsRising low locks → (number : ℕ) → number ≤ low → AllByRecursion (HasNot number) locks
above low [] r number le = tt
above low (l ∷ ls) r number le = (apart l.number number (omega (arith, le, r.0)), above l.number ls r.1 number (omega (arith, le, r.0)))

pub above_low : (low more : ℕ) (locks : List Lock) → more ≤ low → IsRising low locks → IsRising more locks
above_low low more [] le r = tt
above_low low more (l ∷ ls) le r = (omega (arith, le, r.0), r.1)

none_live : (moment number : ℕ) (locks : List Lock) → AllByRecursion (HasNot number) locks → is_live_number locks moment number ≡ false
none_live moment number [] h = refl
none_live moment number (l ∷ ls) h = rw h.0 (none_live moment number ls h.1)

pub none_numbered : (number : ℕ) (locks : List Lock) → AllByRecursion (HasNot number) locks → features_of locks number ≡ []
unfolding first_of
none_numbered number [] h = refl
none_numbered number (l ∷ ls) h = rw h.0 (none_numbered number ls h.1)

pub none_changed : (number : ℕ) (change : Lock → Lock) (locks : List Lock) → AllByRecursion (HasNot number) locks → changed_at number change locks ≡ locks
none_changed number change [] h = refl
none_changed number change (l ∷ ls) h = rw (h.0, none_changed number change ls h.1) refl

pub not_live : (moment number : ℕ) (locks : List Lock) → AllByRecursion (HasNot number) locks → is_live_number locks moment number ≡ false
not_live moment number locks h = none_live moment number locks h

-- one has it, at a place

and_false : (a b : Bool) → a ≡ false → (a && b) ≡ false
and_false a b e = rw e refl

or_only : (a b : Bool) → b ≡ false → (a || b) ≡ a
or_only true b e = refl
or_only false b e = e

pub live_here : (moment number : ℕ) (l : Lock) (ls : List Lock) → has_number number l ≡ true → AllByRecursion (HasNot number) ls → is_live_number (l ∷ ls) moment number ≡ is_live moment l
live_here moment number l ls e h = rw e (or_only (is_live moment l) _ (none_live moment number ls h))

number_here : (number : ℕ) (l : Lock) → l.number ≡ number → has_number number l ≡ true
number_here number l e = grind (arith, e)

pub number_below : (low : ℕ) (locks : List Lock) (i : ℕ) (d : Lock) → IsRising low locks → i < length locks → low < (get_or locks i d).number
number_below low [] i d r lt = absurd (omega (arith, lt))
number_below low (l ∷ ls) zero d r lt = r.0
number_below low (l ∷ ls) (suc i) d r lt = let more : l.number < (get_or ls i d).number = number_below l.number ls i d r.1 (omega (arith, lt)) in omega (arith, more, r.0)

pub not_yet : (l : Lock) (ls : List Lock) (i : ℕ) (d : Lock) (number : ℕ) → IsRising l.number ls → i < length ls → (get_or ls i d).number ≡ number → has_number number l ≡ false
not_yet l ls i d number r lt e = let more : l.number < (get_or ls i d).number = number_below l.number ls i d r lt in grind (arith, more, e)

pub live_at : (moment number low : ℕ) (locks : List Lock) (i : ℕ) (d : Lock) → IsRising low locks → i < length locks → (get_or locks i d).number ≡ number → is_live_number locks moment number ≡ is_live moment (get_or locks i d)
live_at moment number low [] i d r lt e = absurd (omega (arith, lt))
live_at moment number low (l ∷ ls) zero d r lt e = live_here moment number l ls (number_here number l e) (above l.number ls r.1 number (omega (arith, e)))
live_at moment number low (l ∷ ls) (suc i) d r lt e = rw (not_yet l ls i d number r.1 (omega (arith, lt)) e) (live_at moment number l.number ls i d r.1 (omega (arith, lt)) e)

pub features_at : (number low : ℕ) (locks : List Lock) (i : ℕ) (d : Lock) → IsRising low locks → i < length locks → (get_or locks i d).number ≡ number → features_of locks number ≡ (get_or locks i d).features
unfolding first_of
features_at number low [] i d r lt e = absurd (omega (arith, lt))
features_at number low (l ∷ ls) zero d r lt e = rw (number_here number l e) refl
features_at number low (l ∷ ls) (suc i) d r lt e = rw (not_yet l ls i d number r.1 (omega (arith, lt)) e) (features_at number l.number ls i d r.1 (omega (arith, lt)) e)

pub changed_there : (number low : ℕ) (change : Lock → Lock) (locks : List Lock) (i : ℕ) (d : Lock) → IsRising low locks → i < length locks → (get_or locks i d).number ≡ number → slice_set locks i (change (get_or locks i d)) ≡ changed_at number change locks
changed_there number low change [] i d r lt e = absurd (omega (arith, lt))
changed_there number low change (l ∷ ls) zero d r lt e = rw (number_here number l e, none_changed number change ls (above l.number ls r.1 number (omega (arith, e)))) refl
changed_there number low change (l ∷ ls) (suc i) d r lt e = rw (not_yet l ls i d number r.1 (omega (arith, lt)) e) (ap (λ (rest : List Lock). l ∷ rest) (changed_there number l.number change ls i d r.1 (omega (arith, lt)) e))

-- a change of the lock at a place
pub changed_place : (number : ℕ) (change : Lock → Lock) (locks : List Lock) (i : ℕ) (old new : Lock) → IsRising 0 locks → i < length locks → (get_or locks i old).number ≡ number → new ≡ change (get_or locks i old)
    → slice_set locks i new ≡ changed_at number change locks
changed_place number change locks i old new rising lt has changed = ap (λ (l : Lock). slice_set locks i l) changed ∙ changed_there number 0 change locks i old rising lt has

-- each lock that has the number of a live one is live

abbrev pub IsLiveAs : ℕ → ℕ → Lock → Type 0
IsLiveAs moment number lock = has_number number lock ≡ true → is_live moment lock ≡ true

pub all_weaker : {X : Type 0} (P Q : X → Type 0) (xs : List X) → ((x : X) → P x → Q x) → AllByRecursion P xs → AllByRecursion Q xs
all_weaker P Q [] h all = tt
all_weaker P Q (x ∷ xs) h all = (h x all.0, all_weaker P Q xs h all.1)

pub all_both : {X : Type 0} (P Q : X → Type 0) (xs : List X) → AllByRecursion P xs → AllByRecursion Q xs → AllByRecursion (λ x. P x × Q x) xs
all_both P Q [] ps qs = tt
all_both P Q (x ∷ xs) ps qs = ((ps.0, qs.0), all_both P Q xs ps.1 qs.1)

all_kept : {X : Type 0} (P : X → Type 0) (x : X) (xs : List X) (b : Bool) → P x → AllByRecursion P xs → AllByRecursion P (cond b (x ∷ xs) xs)
all_kept P x xs true here there = (here, there)
all_kept P x xs false here there = there

pub all_filter : {X : Type 0} (P : X → Type 0) (q : X → Bool) (xs : List X) → AllByRecursion P xs → AllByRecursion P (filter q xs)
all_filter P q [] all = tt
all_filter P q (x ∷ xs) all = all_kept P x (filter q xs) (q x) all.0 (all_filter P q xs all.1)

never_as : (moment number : ℕ) (l : Lock) → HasNot number l → IsLiveAs moment number l
never_as moment number l e is = absurd (let bad = sym e ∙ is in cc)

live_as : (moment number low : ℕ) (l : Lock) (ls : List Lock) (b : Bool) → has_number number l ≡ b → IsRising l.number ls → is_live_number (l ∷ ls) moment number ≡ true → (is_live_number ls moment number ≡ true → AllByRecursion (IsLiveAs moment number) ls) → AllByRecursion (IsLiveAs moment number) (l ∷ ls)
live_as moment number low l ls true e r live rest =
    let none : AllByRecursion (HasNot number) ls = above l.number ls r number (omega (arith, is_number_of l.number number e)) in
    ((λ _. sym (live_here moment number l ls e none) ∙ live), all_weaker (HasNot number) (IsLiveAs moment number) ls (never_as moment number) none)
live_as moment number low l ls false e r live rest = (never_as moment number l e, rest (rw e at live))

pub live_one : (moment number low : ℕ) (locks : List Lock) → IsRising low locks → is_live_number locks moment number ≡ true → AllByRecursion (IsLiveAs moment number) locks
live_one moment number low [] r live = tt
live_one moment number low (l ∷ ls) r live = live_as moment number low l ls (has_number number l) refl r.1 live (λ more. live_one moment number l.number ls r.1 more)

-- no live lock has the number of an ended one
pub ended_number : (moment low : ℕ) (locks : List Lock) (i : ℕ) (d : Lock) → IsRising low locks → i < length locks → is_live moment (get_or locks i d) ≡ false
    → AllByRecursion (λ l. is_live moment l ≡ true → HasNot (get_or locks i d).number l) locks
ended_number moment low [] i d r lt e = absurd (omega (arith, lt))
ended_number moment low (l ∷ ls) zero d r lt e = ((λ live. absurd (let bad = sym e ∙ live in cc)), all_weaker (HasNot l.number) (λ m. is_live moment m ≡ true → HasNot l.number m) ls (λ m has _. has) (above l.number ls r.1 l.number (omega arith)))
ended_number moment low (l ∷ ls) (suc i) d r lt e =
    ((λ _. not_yet l ls i d (get_or ls i d).number r.1 (omega (arith, lt)) refl), ended_number moment l.number ls i d r.1 (omega (arith, lt)) e)

-- what keeps numbers rising

same_number : (change : Lock → Lock) (l : Lock) (b : Bool) → (change l).number ≡ l.number → (if b then change l else l).number ≡ l.number
same_number change l true e = e
same_number change l false e = refl

pub rising_changed : (low number : ℕ) (change : Lock → Lock) (locks : List Lock) → ((l : Lock) → (change l).number ≡ l.number) → IsRising low locks → IsRising low (changed_at number change locks)
rising_changed low number change [] same r = tt
rising_changed low number change (l ∷ ls) same r =
    subst (λ (n : ℕ). (low < n) × IsRising n (changed_at number change ls)) (sym (same_number change l (has_number number l) (same l))) (r.0, rising_changed l.number number change ls same r.1)

rising_kept : (low : ℕ) (l : Lock) (ls : List Lock) (b : Bool) → low < l.number → IsRising l.number ls → IsRising low (cond b (l ∷ ls) ls)
rising_kept low l ls true lt r = (lt, r)
rising_kept low l ls false lt r = above_low l.number low ls (omega (arith, lt)) r

pub rising_filter : (low : ℕ) (q : Lock → Bool) (locks : List Lock) → IsRising low locks → IsRising low (filter q locks)
rising_filter low q [] r = tt
rising_filter low q (l ∷ ls) r = rising_kept low l (filter q ls) (q l) r.0 (rising_filter l.number q ls r.1)

pub rising_more : (low given : ℕ) (new : Lock) (locks : List Lock) → low ≤ given → new.number ≡ given + 1 → AllByRecursion (λ l. l.number ≤ given) locks → IsRising low locks → IsRising low (locks ++ new ∷ [])
rising_more low given new [] le e all r = (omega (arith, le, e), tt)
rising_more low given new (l ∷ ls) le e all r = (r.0, rising_more l.number given new ls all.0 e all.1 r.1)

changed_or_not : (P Q : Lock → Type 0) (number : ℕ) (change : Lock → Lock) (l : Lock) (b : Bool) → has_number number l ≡ b → (has_number number l ≡ true → P l → Q (change l)) → (has_number number l ≡ false → P l → Q l) → P l → Q (if b then change l else l)
changed_or_not P Q number change l true e this other p = this e p
changed_or_not P Q number change l false e this other p = other e p

pub all_changed : (P Q : Lock → Type 0) (number : ℕ) (change : Lock → Lock) (locks : List Lock) → ((l : Lock) → has_number number l ≡ true → P l → Q (change l)) → ((l : Lock) → has_number number l ≡ false → P l → Q l)
    → AllByRecursion P locks → AllByRecursion Q (changed_at number change locks)
all_changed P Q number change [] this other all = tt
all_changed P Q number change (l ∷ ls) this other all =
    (changed_or_not P Q number change l (has_number number l) refl (this l) (other l) all.0, all_changed P Q number change ls this other all.1)

pub all_more : {X : Type 0} (P : X → Type 0) (xs : List X) (x : X) → AllByRecursion P xs → P x → AllByRecursion P (xs ++ x ∷ [])
all_more P [] x all here = (here, tt)
all_more P (y ∷ ys) x all here = (all.0, all_more P ys x all.1 here)
