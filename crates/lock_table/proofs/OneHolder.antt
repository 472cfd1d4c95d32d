-- The map by feature tells the holder, and at most one live lock lists a feature.
use Rattle.std.proofs.Common.{◌≡◌, ℕ, ◌<◌, ◌≤◌, Bool, true, false, cond, ◌&&◌, ◌||◌, List, [], ◌∷◌, length, Option, Some, None, refl, sym, ap, ◌∙◌, arith}
use Rattle.std.specs.Prelude.{if◌then◌else◌}
use Rattle.std.specs.List.{AllByRecursion, filter}
use Rattle.std.specs.Option.{option_or}
use Rattle.feature_values.specs.declared.feature.Rid.{Rid}
use Rattle.lock_table.specs.Lock.{Lock}
use Rattle.lock_table.specs.Held.{is_live, live, lists, first_of, held, holder, has_number, is_live_number, IsRising, HaveOneHolder, AreNumbered}
use Rattle.lock_table.specs.Kept.{holder_by, IsHeldBy, AreKept}
use Rattle.lock_table.proofs.Keeping.{later_live}
use Rattle.lock_table.proofs.Rising.{is_number_of, rising_filter, all_filter}

-- the holder

none_at : (moment : ℕ) (f : Rid) (l : Lock) (rest : Option ℕ) (a : Bool) → is_live moment l ≡ a → (a ≡ true → lists f l ≡ false) → rest ≡ None → option_or (held moment f l) rest ≡ None
none_at moment f l rest true is h e = rw (is, h refl) e
none_at moment f l rest false is h e = rw is e

none_holds : (last moment : ℕ) (holds : Rid → Option ℕ) (f : Rid) (locks : List Lock) → last ≤ moment → holds f ≡ None → AllByRecursion (IsHeldBy last holds) locks → holder locks moment f ≡ None
unfolding first_of
none_holds last moment holds f [] le e all = refl
none_holds last moment holds f (l ∷ ls) le e all =
    none_at moment f l (first_of (held moment f) ls) (is_live moment l) refl (λ live. all.0 (later_live last moment l le live) f ∙ rw e refl) (none_holds last moment holds f ls le e all.1)

some_at : (moment n : ℕ) (f : Rid) (l : Lock) (rest : Option ℕ) (more : Bool) (a b : Bool) → is_live moment l ≡ a → has_number n l ≡ b → (a ≡ true → lists f l ≡ b) → (b ≡ true → l.number ≡ n) → (if more then Some n else None) ≡ rest
    → (if (has_number n l && is_live moment l) || more then Some n else None) ≡ option_or (held moment f l) rest
some_at moment n f l rest more true true is has h same e = rw (is, has, h refl) (ap (λ (m : ℕ). Some m) (sym (same refl)))
some_at moment n f l rest more true false is has h same e = rw (is, has, h refl) e
some_at moment n f l rest more false true is has h same e = rw (is, has) e
some_at moment n f l rest more false false is has h same e = rw (is, has) e

some_holds : (last moment n : ℕ) (holds : Rid → Option ℕ) (f : Rid) (locks : List Lock) → last ≤ moment → holds f ≡ Some n → AllByRecursion (IsHeldBy last holds) locks → (if is_live_number locks moment n then Some n else None) ≡ holder locks moment f
unfolding first_of
some_holds last moment n holds f [] le e all = refl
some_holds last moment n holds f (l ∷ ls) le e all =
    some_at moment n f l (first_of (held moment f) ls) (is_live_number ls moment n) (is_live moment l) (has_number n l) refl refl (λ live. all.0 (later_live last moment l le live) f ∙ rw e refl) (is_number_of l.number n) (some_holds last moment n holds f ls le e all.1)

held_by : (last moment : ℕ) (holds : Rid → Option ℕ) (f : Rid) (locks : List Lock) (o : Option ℕ) → last ≤ moment → holds f ≡ o → AllByRecursion (IsHeldBy last holds) locks → holder_by locks moment o ≡ holder locks moment f
held_by last moment holds f locks None le e all = sym (none_holds last moment holds f locks le e all)
held_by last moment holds f locks (Some n) le e all = some_holds last moment n holds f locks le e all

pub holder_is : (last moment : ℕ) (holds : Rid → Option ℕ) (f : Rid) (locks : List Lock) → last ≤ moment → AllByRecursion (IsHeldBy last holds) locks → holder_by locks moment (holds f) ≡ holder locks moment f
holder_is last moment holds f locks le all = held_by last moment holds f locks (holds f) le refl all

-- one lock at most

skip_dead : (last : ℕ) (f : Rid) (l : Lock) (seen : List Lock) (a : Bool) → is_live last l ≡ a → (a ≡ true → lists f l ≡ false) → length (filter (lists f) (cond a (l ∷ seen) seen)) ≡ length (filter (lists f) seen)
skip_dead last f l seen true is h = rw (h refl) refl
skip_dead last f l seen false is h = refl

above_is : (low n : ℕ) (l : Lock) → n ≤ low → low < l.number → has_number n l ≡ false
above_is low n l le lt = grind (arith, le, lt)

none_above : (last low n : ℕ) (holds : Rid → Option ℕ) (f : Rid) (locks : List Lock) → holds f ≡ Some n → n ≤ low → IsRising low locks → AllByRecursion (IsHeldBy last holds) locks → length (filter (lists f) (live last locks)) ≡ 0
none_above last low n holds f [] e le r all = refl
none_above last low n holds f (l ∷ ls) e le r all =
    skip_dead last f l (live last ls) (is_live last l) refl (λ live. all.0 live f ∙ rw e (above_is low n l le r.0)) ∙ none_above last l.number n holds f ls e (omega (arith, le, r.0)) r.1 all.1

none_at_all : (last : ℕ) (holds : Rid → Option ℕ) (f : Rid) (locks : List Lock) → holds f ≡ None → AllByRecursion (IsHeldBy last holds) locks → length (filter (lists f) (live last locks)) ≡ 0
none_at_all last holds f [] e all = refl
none_at_all last holds f (l ∷ ls) e all = skip_dead last f l (live last ls) (is_live last l) refl (λ live. all.0 live f ∙ rw e refl) ∙ none_at_all last holds f ls e all.1

at_most : (b : Bool) (l : Lock) (xs : List Lock) → (b ≡ true → length xs ≡ 0) → length xs ≤ 1 → length (cond b (l ∷ xs) xs) ≤ 1
at_most true l xs h le = omega (arith, h refl)
at_most false l xs h le = le

one_more : (last : ℕ) (f : Rid) (l : Lock) (seen : List Lock) (a : Bool) → is_live last l ≡ a → (a ≡ true → lists f l ≡ true → length (filter (lists f) seen) ≡ 0) → length (filter (lists f) seen) ≤ 1 → length (filter (lists f) (cond a (l ∷ seen) seen)) ≤ 1
one_more last f l seen true is h le = at_most (lists f l) l (filter (lists f) seen) (h refl) le
one_more last f l seen false is h le = le

one_above : (last low n : ℕ) (holds : Rid → Option ℕ) (f : Rid) (locks : List Lock) → holds f ≡ Some n → IsRising low locks → AllByRecursion (IsHeldBy last holds) locks → length (filter (lists f) (live last locks)) ≤ 1
one_above last low n holds f [] e r all = omega arith
one_above last low n holds f (l ∷ ls) e r all =
    one_more last f l (live last ls) (is_live last l) refl (λ live listed. none_above last l.number n holds f ls e (omega (arith, is_number_of l.number n (sym (all.0 live f ∙ rw e refl) ∙ listed))) r.1 all.1) (one_above last l.number n holds f ls e r.1 all.1)

one_at_most : (last : ℕ) (holds : Rid → Option ℕ) (f : Rid) (locks : List Lock) (o : Option ℕ) → holds f ≡ o → IsRising 0 locks → AllByRecursion (IsHeldBy last holds) locks → length (filter (lists f) (live last locks)) ≤ 1
one_at_most last holds f locks None e r all = omega (arith, none_at_all last holds f locks e all)
one_at_most last holds f locks (Some n) e r all = one_above last 0 n holds f locks e r all

pub one_holder : (last given : ℕ) (holds : Rid → Option ℕ) (locks : List Lock) → AreKept last given holds locks → HaveOneHolder (live last locks)
one_holder last given holds locks kept f = one_at_most last holds f locks (holds f) refl kept.rising kept.held

pub numbered : (last given : ℕ) (holds : Rid → Option ℕ) (locks : List Lock) → AreKept last given holds locks → AreNumbered given (live last locks)
numbered last given holds locks kept = record { rising = rising_filter 0 (is_live last) locks kept.rising; counted = all_filter (λ l. l.number ≤ given) (is_live last) locks kept.counted }
