-- The list and the map by feature agree, whatever the calls do.
use Rattle.std.proofs.Common.{◌≡◌, ℕ, ◌<◌, ◌≤◌, Bool, true, false, ◌&&◌, List, [], length, get_or, Option, Some, None, refl, sym, subst, ◌∙◌, arith}
use Rattle.std.specs.Prelude.{◌==◌, if◌then◌else◌}
use Rattle.std.specs.List.{filter}
use Rattle.feature_values.specs.declared.feature.Rid.{Rid}
use Rattle.lock_table.specs.Lock.{Lock}
use Rattle.lock_table.specs.Held.{is_live, live, is_among, has_number, is_live_number, features_of}
use Rattle.lock_table.specs.Kept.{is_number, freed_of, IsHeldBy, AreListed, AreKept, ended, ended_features, left_by}
use Rattle.lock_table.specs.Steps.{renewed_lock, changed_at}
use Rattle.lock_table.proofs.Listed.{freed_fewer, among_kept, fewer_listed, renewed_listed, ended_listed, left_listed}
use Rattle.lock_table.proofs.Rising.{HasNot, IsLiveAs, is_number_of, all_weaker, all_both, all_filter, all_changed, live_one, ended_number, rising_changed, rising_filter}

pub later_live : (last moment : ℕ) (l : Lock) → last ≤ moment → is_live moment l ≡ true → is_live last l ≡ true
later_live last moment l le live = grind (arith, live, le)

held_later : (last moment : ℕ) (holds : Rid → Option ℕ) (l : Lock) → last ≤ moment → IsHeldBy last holds l → IsHeldBy moment holds l
held_later last moment holds l le h live = h (later_live last moment l le live)

-- a change of one lock, with a new map

module _ (last moment given number : ℕ) (change : Lock → Lock) (holds new : Rid → Option ℕ) (locks : List Lock)
    (le : last ≤ moment) (same : (l : Lock) → (change l).number ≡ l.number)
    (others : (l : Lock) → has_number number l ≡ false → (f : Rid) → is_number l.number (new f) ≡ is_number l.number (holds f))
    (this : (l : Lock) → has_number number l ≡ true → is_live moment l ≡ true → IsHeldBy last holds l → IsHeldBy moment new (change l))
    (fewer : (f : Rid) (n : ℕ) → new f ≡ Some n → holds f ≡ Some n)
    (listed : AreListed holds locks → AreListed new (changed_at number change locks)) where
  held_other : (l : Lock) → has_number number l ≡ false → IsHeldBy last holds l → IsHeldBy moment new l
  held_other l e h live f = h (later_live last moment l le live) f ∙ sym (others l e f)

  pub changed_kept : AreKept last given holds locks → is_live_number locks moment number ≡ true → AreKept moment given new (changed_at number change locks)
  changed_kept kept live = record {
    rising = rising_changed 0 number change locks same kept.rising;
    counted = all_changed (λ l. l.number ≤ given) (λ l. l.number ≤ given) number change locks (λ l _ h. subst (λ (n : ℕ). n ≤ given) (sym (same l)) h) (λ l _ h. h) kept.counted;
    held = all_changed (λ l. IsHeldBy last holds l × IsLiveAs moment number l) (IsHeldBy moment new) number change locks (λ l e h. this l e (h.1 e) h.0) (λ l e h. held_other l e h.0)
        (all_both (IsHeldBy last holds) (IsLiveAs moment number) locks kept.held (live_one moment number 0 locks kept.rising live));
    issued = λ f n e. kept.issued f n (fewer f n e);
    listed = listed kept.listed;
  }

pub renewed_kept : (last moment given number : ℕ) (period : Option ℕ) (holds : Rid → Option ℕ) (locks : List Lock) → last ≤ moment → AreKept last given holds locks → is_live_number locks moment number ≡ true
    → AreKept moment given holds (changed_at number (renewed_lock moment period) locks)
renewed_kept last moment given number period holds locks le kept live =
    changed_kept last moment given number (renewed_lock moment period) holds holds locks le (λ l. refl) (λ l _ f. refl) (λ l e is h _. h (later_live last moment l le is)) (λ f n e. e) (renewed_listed moment number period holds locks) kept live

-- features that a lock leaves

freed_other_at : (number k n : ℕ) (b : Bool) → (number == n) ≡ b → (k == number) ≡ false → is_number k (if b then None else Some n) ≡ is_number k (Some n)
freed_other_at number k n true e ne = sym (subst (λ (m : ℕ). (k == m) ≡ false) (is_number_of number n e) ne)
freed_other_at number k n false e ne = refl

freed_other : (number k : ℕ) (a : Bool) (o : Option ℕ) → (k == number) ≡ false → is_number k (if a && is_number number o then None else o) ≡ is_number k o
freed_other number k false o ne = refl
freed_other number k true None ne = refl
freed_other number k true (Some n) ne = freed_other_at number k n (number == n) refl ne

module _ (number : ℕ) (features : List Rid) (holds new : Rid → Option ℕ) (freed : (f : Rid) → new f ≡ freed_of number features holds f) where
  pub freed_others : (l : Lock) → has_number number l ≡ false → (f : Rid) → is_number l.number (new f) ≡ is_number l.number (holds f)
  freed_others l ne f = rw (freed f) (freed_other number l.number (is_among f features) (holds f) ne)

never_live : (moment : ℕ) (l : Lock) → is_live moment (ended l) ≡ true → ⊥
never_live moment l e = grind (arith, e)

pub ended_kept : (last moment given number : ℕ) (features : List Rid) (holds new : Rid → Option ℕ) (locks : List Lock) → last ≤ moment → ((f : Rid) → new f ≡ freed_of number features holds f) → AreKept last given holds locks
    → features ≡ features_of locks number → is_live_number locks moment number ≡ true → AreKept moment given new (changed_at number ended locks)
ended_kept last moment given number features holds new locks le freed kept all live =
    changed_kept last moment given number ended holds new locks le (λ l. refl) (freed_others number features holds new freed) (λ l _ _ _ is. absurd (never_live moment l is)) (freed_fewer number features holds new freed) (ended_listed number features holds new locks freed kept.rising all) kept live

-- where a lock held all that it listed, it holds what is left
left_at : (number n : ℕ) (a b c : Bool) → (number == n) ≡ c → a ≡ c → (a && is_number number (if b && c then None else Some n)) ≡ is_number number (if b && c then None else Some n)
left_at number n true b c e is = refl
left_at number n false true true e is = refl
left_at number n false true false e is = sym e
left_at number n false false true e is = absurd (let bad = is in cc)
left_at number n false false false e is = sym e

left_held : (number : ℕ) (a b : Bool) (o : Option ℕ) → a ≡ is_number number o → (a && is_number number (if b && is_number number o then None else o)) ≡ is_number number (if b && is_number number o then None else o)
left_held number true b o e = refl
left_held number false true None e = refl
left_held number false false None e = refl
left_held number false b (Some n) e = left_at number n false b (number == n) refl e

pub left_kept : (last moment given number : ℕ) (features : List Rid) (holds new : Rid → Option ℕ) (locks : List Lock) → last ≤ moment → ((f : Rid) → new f ≡ freed_of number features holds f) → AreKept last given holds locks
    → is_live_number locks moment number ≡ true → AreKept moment given new (changed_at number (left_by moment new) locks)
left_kept last moment given number features holds new locks le freed kept live =
    changed_kept last moment given number (left_by moment new) holds new locks le (λ l. refl) (freed_others number features holds new freed)
    (λ l e is h _ f.
    let same : l.number ≡ number = is_number_of l.number number e in
    among_kept (λ g. is_number l.number (new g)) f l.features ∙ rw (freed f, same) (left_held number (is_among f l.features) (is_among f features) (holds f) (h (later_live last moment l le is) f ∙ rw same refl)))
    (freed_fewer number features holds new freed) (left_listed moment number holds new locks (freed_fewer number features holds new freed)) kept live

-- features of a lock that has ended

pub swept_kept : (last given i : ℕ) (d : Lock) (features : List Rid) (holds new : Rid → Option ℕ) (locks : List Lock) → i < length locks → is_live last (get_or locks i d) ≡ false
    → ((f : Rid) → new f ≡ freed_of (get_or locks i d).number features holds f) → AreKept last given holds locks → AreKept last given new locks
swept_kept last given i d features holds new locks lt dead freed kept = record {
  rising = kept.rising;
  counted = kept.counted;
  held = all_weaker (λ l. IsHeldBy last holds l × (is_live last l ≡ true → HasNot (get_or locks i d).number l)) (IsHeldBy last new) locks
      (λ l h live f. h.0 live f ∙ sym (freed_others (get_or locks i d).number features holds new freed l (h.1 live) f))
      (all_both (IsHeldBy last holds) (λ l. is_live last l ≡ true → HasNot (get_or locks i d).number l) locks kept.held (ended_number last 0 locks i d kept.rising lt dead));
  issued = λ f n e. kept.issued f n (freed_fewer (get_or locks i d).number features holds new freed f n e);
  listed = fewer_listed holds new locks (freed_fewer (get_or locks i d).number features holds new freed) kept.listed;
}

pub filter_kept : (last given : ℕ) (q : Lock → Bool) (holds : Rid → Option ℕ) (locks : List Lock) → AreListed holds (filter q locks) → AreKept last given holds locks → AreKept last given holds (filter q locks)
filter_kept last given q holds locks listed kept = record {
  rising = rising_filter 0 q locks kept.rising;
  counted = all_filter (λ l. l.number ≤ given) q locks kept.counted;
  held = all_filter (IsHeldBy last holds) q locks kept.held;
  issued = kept.issued;
  listed = listed;
}

same_kept : (last given : ℕ) (holds new : Rid → Option ℕ) (locks : List Lock) → ((f : Rid) → new f ≡ holds f) → AreKept last given holds locks → AreKept last given new locks
same_kept last given holds new locks same kept = record {
  rising = kept.rising;
  counted = kept.counted;
  held = all_weaker (IsHeldBy last holds) (IsHeldBy last new) locks (λ l h live f. rw (same f) (h live f)) kept.held;
  issued = λ f n e. kept.issued f n (sym (same f) ∙ e);
  listed = λ f n e. kept.listed f n (sym (same f) ∙ e);
}

swept_at : (last given i : ℕ) (d : Lock) (holds new : Rid → Option ℕ) (locks : List Lock) (b : Bool) → i < length locks → is_live last (get_or locks i d) ≡ b
    → ((f : Rid) → new f ≡ freed_of (get_or locks i d).number (if b then [] else (get_or locks i d).features) holds f) → AreKept last given holds locks → AreKept last given new locks
swept_at last given i d holds new locks true lt is freed kept = same_kept last given holds new locks freed kept
swept_at last given i d holds new locks false lt is freed kept = swept_kept last given i d (get_or locks i d).features holds new locks lt is freed kept

pub swept_step : (last given i : ℕ) (d : Lock) (holds new : Rid → Option ℕ) (locks : List Lock) → i < length locks → ((f : Rid) → new f ≡ freed_of (get_or locks i d).number (ended_features last (get_or locks i d)) holds f)
    → AreKept last given holds locks → AreKept last given new locks
swept_step last given i d holds new locks lt freed kept = swept_at last given i d holds new locks (is_live last (get_or locks i d)) lt refl freed kept

-- a lock that is live no more is ended
pub dead_kept : (last given number : ℕ) (features : List Rid) (holds new : Rid → Option ℕ) (locks : List Lock) → ((f : Rid) → new f ≡ freed_of number features holds f) → features ≡ features_of locks number → AreKept last given holds locks → AreKept last given new (changed_at number ended locks)
dead_kept last given number features holds new locks freed all kept = record {
  rising = rising_changed 0 number ended locks (λ l. refl) kept.rising;
  counted = all_changed (λ l. l.number ≤ given) (λ l. l.number ≤ given) number ended locks (λ l _ h. h) (λ l _ h. h) kept.counted;
  held = all_changed (IsHeldBy last holds) (IsHeldBy last new) number ended locks (λ l e h is. absurd (never_live last l is)) (λ l e h live f. h live f ∙ sym (freed_others number features holds new freed l e f)) kept.held;
  issued = λ f n e. kept.issued f n (freed_fewer number features holds new freed f n e);
  listed = ended_listed number features holds new locks freed kept.rising all kept.listed;
}
