-- What is said of the locks that are live at the last moment is said of the kept ones, among which ended ones stand.
use Rattle.std.proofs.Common.{◌≡◌, ℕ, ◌≤◌, Bool, true, false, cond, ◌&&◌, ◌||◌, List, [], ◌∷◌, ◌++◌, Option, None, refl, sym, ap, ◌∙◌, arith}
use Rattle.std.specs.Prelude.{not, if◌then◌else◌, unwrap_or}
use Rattle.std.specs.List.{AllByRecursion, filter, list_any}
use Rattle.std.specs.Option.{option_or}
use Rattle.feature_values.specs.declared.feature.Rid.{Rid}
use Rattle.lock_table.specs.Lock.{Lock}
use Rattle.lock_table.specs.Held.{is_live, live, first_of, held, holder, has_number, is_live_number, numbered, features_of}
use Rattle.lock_table.specs.Kept.{ended}
use Rattle.lock_table.specs.Steps.{changed_at}
use Rattle.lock_table.proofs.Rising.{IsLiveAs}

pub later_ended : (last moment : ℕ) (l : Lock) → last ≤ moment → is_live last l ≡ false → is_live moment l ≡ false
later_ended last moment l le e = grind (arith, e, le)

-- a look at the live ones

none_first : {Y : Type 0} (a : Bool) (o rest seen : Option Y) → (a ≡ false → o ≡ None) → seen ≡ rest → (if a then option_or o seen else seen) ≡ option_or o rest
none_first true o rest seen h e = rw e refl
none_first false o rest seen h e = rw (h refl) e

first_seen_at : {Y : Type 0} (f : Lock → Option Y) (l : Lock) (seen rest : List Lock) (a : Bool) → (a ≡ false → f l ≡ None) → first_of f seen ≡ first_of f rest → first_of f (cond a (l ∷ seen) seen) ≡ option_or (f l) (first_of f rest)
unfolding first_of
first_seen_at f l seen rest true h e = rw e refl
first_seen_at f l seen rest false h e = rw (h refl) e

pub first_seen : {Y : Type 0} (f : Lock → Option Y) (q : Lock → Bool) (locks : List Lock) → ((l : Lock) → q l ≡ false → f l ≡ None) → first_of f (filter q locks) ≡ first_of f locks
unfolding first_of
first_seen f q [] h = refl
first_seen f q (l ∷ ls) h = first_seen_at f l (filter q ls) ls (q l) (h l) (first_seen f q ls h)

any_seen_at : (p : Lock → Bool) (l : Lock) (seen rest : List Lock) (a : Bool) → (a ≡ false → p l ≡ false) → list_any p seen ≡ list_any p rest → list_any p (cond a (l ∷ seen) seen) ≡ (p l || list_any p rest)
any_seen_at p l seen rest true h e = rw e refl
any_seen_at p l seen rest false h e = rw (h refl) e

any_seen : (p q : Lock → Bool) (locks : List Lock) → ((l : Lock) → q l ≡ false → p l ≡ false) → list_any p (filter q locks) ≡ list_any p locks
any_seen p q [] h = refl
any_seen p q (l ∷ ls) h = any_seen_at p l (filter q ls) ls (q l) (h l) (any_seen p q ls h)

held_none : (last moment : ℕ) (feature : Rid) (l : Lock) → last ≤ moment → is_live last l ≡ false → held moment feature l ≡ None
held_none last moment feature l le e = rw (later_ended last moment l le e) refl

pub holder_seen : (last moment : ℕ) (feature : Rid) (locks : List Lock) → last ≤ moment → holder (live last locks) moment feature ≡ holder locks moment feature
holder_seen last moment feature locks le = first_seen (held moment feature) (is_live last) locks (λ l e. held_none last moment feature l le e)

and_no : (a : Bool) → (a && false) ≡ false
and_no true = refl
and_no false = refl

number_none : (last moment number : ℕ) (l : Lock) → last ≤ moment → is_live last l ≡ false → (has_number number l && is_live moment l) ≡ false
number_none last moment number l le e = rw (later_ended last moment l le e) (and_no (has_number number l))

pub number_seen : (last moment number : ℕ) (locks : List Lock) → last ≤ moment → is_live_number (live last locks) moment number ≡ is_live_number locks moment number
number_seen last moment number locks le = any_seen (λ l. has_number number l && is_live moment l) (is_live last) locks (λ l e. number_none last moment number l le e)

numbered_none_at : (last number : ℕ) (l : Lock) (b : Bool) → has_number number l ≡ b → is_live last l ≡ false → (has_number number l ≡ true → is_live last l ≡ true) → numbered number l ≡ None
numbered_none_at last number l true e dead h = absurd (let bad = sym dead ∙ h e in cc)
numbered_none_at last number l false e dead h = rw e refl

features_seen_at : (last number : ℕ) (l : Lock) (seen rest : List Lock) (a : Bool) → is_live last l ≡ a → (has_number number l ≡ true → is_live last l ≡ true) → first_of (numbered number) seen ≡ first_of (numbered number) rest
    → first_of (numbered number) (cond a (l ∷ seen) seen) ≡ option_or (numbered number l) (first_of (numbered number) rest)
features_seen_at last number l seen rest a is h e = first_seen_at (numbered number) l seen rest a (λ no. numbered_none_at last number l (has_number number l) refl (is ∙ no) h) e

first_numbered : (last number : ℕ) (locks : List Lock) → AllByRecursion (IsLiveAs last number) locks → first_of (numbered number) (live last locks) ≡ first_of (numbered number) locks
unfolding first_of
first_numbered last number [] all = refl
first_numbered last number (l ∷ ls) all = features_seen_at last number l (live last ls) ls (is_live last l) refl all.0 (first_numbered last number ls all.1)

pub features_seen : (last number : ℕ) (locks : List Lock) → AllByRecursion (IsLiveAs last number) locks → features_of (live last locks) number ≡ features_of locks number
features_seen last number locks all = ap (λ (o : Option (List Rid)). unwrap_or o []) (first_numbered last number locks all)

filtered_once : (p : Lock → Bool) (l : Lock) (seen rest : List Lock) (a : Bool) → (a ≡ false → p l ≡ false) → filter p seen ≡ filter p rest → filter p (cond a (l ∷ seen) seen) ≡ cond (p l) (l ∷ filter p rest) (filter p rest)
filtered_once p l seen rest true h e = rw e refl
filtered_once p l seen rest false h e = rw (h refl) e

pub live_seen : (last moment : ℕ) (locks : List Lock) → last ≤ moment → live moment (live last locks) ≡ live moment locks
live_seen last moment [] le = refl
live_seen last moment (l ∷ ls) le = filtered_once (is_live moment) l (live last ls) ls (is_live last l) (later_ended last moment l le) (live_seen last moment ls le)

-- what the calls leave

more_seen_at : (moment : ℕ) (l new : Lock) (seen rest : List Lock) (a : Bool) → (a ≡ false → is_live moment l ≡ false) → live moment (seen ++ new ∷ []) ≡ live moment (rest ++ new ∷ [])
    → live moment (cond a (l ∷ seen) seen ++ new ∷ []) ≡ live moment ((l ∷ rest) ++ new ∷ [])
more_seen_at moment l new seen rest true h e = rw e refl
more_seen_at moment l new seen rest false h e = rw (h refl) e

pub more_seen : (last moment : ℕ) (new : Lock) (locks : List Lock) → last ≤ moment → live moment (live last locks ++ new ∷ []) ≡ live moment (locks ++ new ∷ [])
more_seen last moment new [] le = refl
more_seen last moment new (l ∷ ls) le = more_seen_at moment l new (live last ls) ls (is_live last l) (later_ended last moment l le) (more_seen last moment new ls le)

unchanged : (number : ℕ) (change : Lock → Lock) (l : Lock) (b : Bool) → has_number number l ≡ b → (has_number number l ≡ true → ⊥) → (if b then change l else l) ≡ l
unchanged number change l true e h = absurd (h e)
unchanged number change l false e h = refl

changed_seen_at : (moment number : ℕ) (change : Lock → Lock) (l : Lock) (seen rest : List Lock) (a : Bool) → (a ≡ false → (has_number number l ≡ true → ⊥) × (is_live moment l ≡ false)) → live moment (changed_at number change seen) ≡ live moment (changed_at number change rest)
    → live moment (changed_at number change (cond a (l ∷ seen) seen)) ≡ live moment (changed_at number change (l ∷ rest))
changed_seen_at moment number change l seen rest true h e = rw e refl
changed_seen_at moment number change l seen rest false h e = rw (unchanged number change l (has_number number l) refl (h refl).0, (h refl).1) e

pub changed_seen : (last moment number : ℕ) (change : Lock → Lock) (locks : List Lock) → last ≤ moment → AllByRecursion (IsLiveAs last number) locks → live moment (changed_at number change (live last locks)) ≡ live moment (changed_at number change locks)
changed_seen last moment number change [] le all = refl
changed_seen last moment number change (l ∷ ls) le all = changed_seen_at moment number change l (live last ls) ls (is_live last l) (λ e. ((λ has. let bad = sym e ∙ all.0 has in cc), later_ended last moment l le e)) (changed_seen last moment number change ls le all.1)

pub never : (moment : ℕ) (l : Lock) → is_live moment (ended l) ≡ false
never moment l = grind arith

ended_at : (moment number : ℕ) (l : Lock) (left rest : List Lock) (b : Bool) → has_number number l ≡ b → live moment left ≡ live moment rest → live moment (cond (not b) (l ∷ left) left) ≡ live moment ((if b then ended l else l) ∷ rest)
ended_at moment number l left rest true is e = rw (never moment l) e
ended_at moment number l left rest false is e = rw e refl

-- a lock that has ended is as one that is taken out
pub ended_out : (moment number : ℕ) (locks : List Lock) → live moment (filter (λ l. not (has_number number l)) locks) ≡ live moment (changed_at number ended locks)
ended_out moment number [] = refl
ended_out moment number (l ∷ ls) = ended_at moment number l (filter (λ m. not (has_number number m)) ls) (changed_at number ended ls) (has_number number l) refl (ended_out moment number ls)
