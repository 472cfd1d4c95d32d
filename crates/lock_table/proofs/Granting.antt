-- A grant on features that nobody holds, and a lock that touched features leave.
use Rattle.std.proofs.Common.{◌≡◌, ℕ, ◌+◌, ◌≤◌, Bool, true, false, cond, ◌&&◌, ◌||◌, List, [], ◌∷◌, ◌++◌, length, Option, Some, None, refl, sym, ap, subst, ◌∙◌, arith}
use Rattle.std.specs.Prelude.{◌==◌, suc, not, nat_lt, if◌then◌else◌, All}
use Rattle.std.specs.List.{AllByRecursion, filter}
use Rattle.std.specs.Option.{option_or}
use Rattle.feature_values.specs.declared.feature.Rid.{Rid}
use Rattle.lock_table.specs.Lock.{Lock}
use Rattle.lock_table.specs.Held.{is_live, live, is_same, is_among, lists, first_of, held, holder, has_number, is_live_number, IsRising}
use Rattle.lock_table.specs.Kept.{is_number, given_to, freed_of, IsHeldBy, AreKept, ended, left_with, left_by}
use Rattle.lock_table.specs.Steps.{new_lock, changed_at, without, released}
use Rattle.lock_table.specs.declared.words.Release.TheVariants.{Whole, Touched}
use Rattle.lock_table.proofs.Keeping.{later_live}
use Rattle.lock_table.proofs.Listed.{granted_listed}
use Rattle.lock_table.proofs.Map.{same_is}
use Rattle.lock_table.proofs.Rising.{IsLiveAs, is_number_of, all_weaker, all_both, all_more, live_one, rising_more}
use Rattle.lock_table.proofs.Seen.{later_ended, holder_seen, changed_seen, ended_out}

-- features that nobody holds

among_next : (P : Rid → Type 0) (feature f : Rid) (more b : Bool) → is_same f feature ≡ b → (b || more) ≡ true → P f → (more ≡ true → P feature) → P feature
among_next P feature f more true is e here later = subst P (same_is f feature is) here
among_next P feature f more false is e here later = later e

among_has : (P : Rid → Type 0) (feature : Rid) (features : List Rid) → is_among feature features ≡ true → All P features → P feature
among_has P feature [] e h = absurd (let bad = e in cc)
among_has P feature (f ∷ fs) e h = among_next P feature f (is_among feature fs) (is_same f feature) refl e (h 0 f (omega arith)) (λ more. among_has P feature fs more (λ k d lt. h (suc k) d (omega (arith, lt))))

free_here : (moment : ℕ) (f : Rid) (l : Lock) (rest : Option ℕ) (a b : Bool) → is_live moment l ≡ a → lists f l ≡ b → option_or (if a && b then Some l.number else None) rest ≡ None → a ≡ true → b ≡ false
free_here moment f l rest true true is has e live = absurd (let bad = e in cc)
free_here moment f l rest true false is has e live = refl
free_here moment f l rest false b is has e live = absurd (let bad = live in cc)

free_behind : (o rest : Option ℕ) → option_or o rest ≡ None → rest ≡ None
free_behind None rest e = e
free_behind (Some n) rest e = absurd (let bad = e in cc)

abbrev IsFreeIn : ℕ → List Rid → Lock → Type 0
IsFreeIn moment features lock = (f : Rid) → is_among f features ≡ true → is_live moment lock ≡ true → lists f lock ≡ false

all_free : (moment : ℕ) (features : List Rid) (locks : List Lock) → ((f : Rid) → is_among f features ≡ true → holder locks moment f ≡ None) → AllByRecursion (IsFreeIn moment features) locks
unfolding first_of
all_free moment features [] h = tt
all_free moment features (l ∷ ls) h =
    ((λ f a. free_here moment f l (first_of (held moment f) ls) (is_live moment l) (lists f l) refl refl (h f a)), all_free moment features ls (λ f a. free_behind (held moment f l) (first_of (held moment f) ls) (h f a)))

not_next : (n given : ℕ) → n ≤ given → (n == given + 1) ≡ false
not_next n given le = grind (arith, le)

not_issued : (given n : ℕ) → n ≤ given → (given + 1 == n) ≡ false
not_issued given n le = grind (arith, le)

next_is : (given : ℕ) → (given + 1 == given + 1) ≡ true
next_is given = grind arith

new_at : (given : ℕ) (a : Bool) (o : Option ℕ) → ((n : ℕ) → o ≡ Some n → n ≤ given) → a ≡ is_number (given + 1) (if a then Some (given + 1) else o)
new_at given true o h = sym (next_is given)
new_at given false None h = refl
new_at given false (Some n) h = sym (not_issued given n (h n refl))

module _ (last moment given period : ℕ) (features : List Rid) (holds new : Rid → Option ℕ) (locks : List Lock) (le : last ≤ moment) (given_all : (f : Rid) → new f ≡ given_to (given + 1) features holds f) where
  old_at : (l : Lock) (f : Rid) (a : Bool) → is_among f features ≡ a → l.number ≤ given → (a ≡ true → lists f l ≡ false) → lists f l ≡ is_number l.number (holds f) → lists f l ≡ is_number l.number (if a then Some (given + 1) else holds f)
  old_at l f true e n free h = free refl ∙ sym (not_next l.number given n)
  old_at l f false e n free h = h

  old_held : (l : Lock) → (IsHeldBy last holds l × (l.number ≤ given)) × IsFreeIn moment features l → IsHeldBy moment new l
  old_held l h live f = rw (given_all f) (old_at l f (is_among f features) refl h.0.1 (λ a. h.1 f a live) (h.0.0 (later_live last moment l le live) f))

  issued_at : (a : Bool) (o : Option ℕ) (n : ℕ) → (if a then Some (given + 1) else o) ≡ Some n → (o ≡ Some n → n ≤ given) → n ≤ given + 1
  issued_at true o n e h = let same : given + 1 ≡ n = cc in omega (arith, same)
  issued_at false o n e h = omega (arith, h e)

  pub granted_kept : AreKept last given holds locks → ((f : Rid) → is_among f features ≡ true → holder locks moment f ≡ None) → AreKept moment (given + 1) new (locks ++ new_lock given features moment period ∷ [])
  granted_kept kept free = record {
    rising = rising_more 0 given (new_lock given features moment period) locks (omega arith) refl kept.counted kept.rising;
    counted = all_more (λ l. l.number ≤ given + 1) locks (new_lock given features moment period) (all_weaker (λ l. l.number ≤ given) (λ l. l.number ≤ given + 1) locks (λ l n. omega (arith, n)) kept.counted) (omega arith);
    held = all_more (IsHeldBy moment new) locks (new_lock given features moment period)
        (all_weaker (λ l. (IsHeldBy last holds l × (l.number ≤ given)) × IsFreeIn moment features l) (IsHeldBy moment new) locks old_held
        (all_both (λ l. IsHeldBy last holds l × (l.number ≤ given)) (IsFreeIn moment features) locks (all_both (IsHeldBy last holds) (λ l. l.number ≤ given) locks kept.held kept.counted) (all_free moment features locks free)))
        (λ _ f. rw (given_all f) (new_at given (is_among f features) (holds f) (kept.issued f)));
    issued = λ f n e. issued_at (is_among f features) (holds f) n (sym (given_all f) ∙ e) (kept.issued f n);
    listed = granted_listed moment given period features holds new locks given_all kept.listed;
  }

-- the features that the table sees to be free are free among the kept locks
pub free_kept : (last moment : ℕ) (features : List Rid) (locks : List Lock) → last ≤ moment → All (λ f. holder (live last locks) moment f ≡ None) features → (f : Rid) → is_among f features ≡ true → holder locks moment f ≡ None
free_kept last moment features locks le free f a = sym (holder_seen last moment f locks le) ∙ among_has (λ g. holder (live last locks) moment g ≡ None) f features a free

-- what touched features leave

filter_same : (p q : Rid → Bool) (xs : List Rid) → AllByRecursion (λ x. p x ≡ q x) xs → filter p xs ≡ filter q xs
filter_same p q [] all = refl
filter_same p q (x ∷ xs) all = rw (all.0, filter_same p q xs all.1) refl

same_as_itself : (x : Rid) → is_same x x ≡ true
same_as_itself x = grind arith

or_here : (a b : Bool) → a ≡ true → (a || b) ≡ true
or_here a b e = rw e refl

or_there : (a b : Bool) → b ≡ true → (a || b) ≡ true
or_there true b e = refl
or_there false b e = e

each_listed : (P : Rid → Type 0) (xs : List Rid) → ((f : Rid) → is_among f xs ≡ true → P f) → AllByRecursion P xs
each_listed P [] h = tt
each_listed P (x ∷ xs) h = (h x (or_here (is_same x x) (is_among x xs) (same_as_itself x)), each_listed P xs (λ f e. h f (or_there (is_same x f) (is_among f xs) e)))

stays_at : (n : ℕ) (a : Bool) (o : Option ℕ) → is_number n o ≡ true → is_number n (if a && is_number n o then None else o) ≡ not a
stays_at n true o e = rw e refl
stays_at n false o e = e

abbrev IsLeft : ℕ → ℕ → List Rid → (Rid → Option ℕ) → Lock → Type 0
IsLeft last number touched new lock = has_number number lock ≡ true → (is_live last lock ≡ true) × (filter (λ f. is_number lock.number (new f)) lock.features ≡ filter (λ f. not (is_among f touched)) lock.features)

is_left : (last number : ℕ) (touched : List Rid) (holds new : Rid → Option ℕ) (lock : Lock) → ((f : Rid) → new f ≡ freed_of number touched holds f) → IsHeldBy last holds lock × IsLiveAs last number lock → IsLeft last number touched new lock
is_left last number touched holds new lock freed h e =
    let same : lock.number ≡ number = is_number_of lock.number number e in (
      h.1 e,
      filter_same (λ f. is_number lock.number (new f)) (λ f. not (is_among f touched)) lock.features
          (each_listed (λ f. is_number lock.number (new f) ≡ not (is_among f touched)) lock.features
          (λ f listed. rw (freed f, same) (stays_at number (is_among f touched) (holds f) (sym (h.0 (h.1 e) f ∙ rw same refl) ∙ listed)))),
    )

never : (moment : ℕ) → nat_lt moment 0 ≡ false
never moment = grind arith

dead : (moment : ℕ) (features : List Rid) (l : Lock) → (length features == 0) ≡ true → is_live moment (left_with moment features l) ≡ false
dead moment features l e = rw e (never moment)

alive : (moment : ℕ) (touched : List Rid) (l : Lock) → (length (filter (λ f. not (is_among f touched)) l.features) == 0) ≡ false → left_with moment (filter (λ f. not (is_among f touched)) l.features) l ≡ without moment touched l
alive moment touched l e = rw e refl

abbrev Stays : ℕ → Lock → Bool
Stays number lock = not (has_number number lock && (length lock.features == 0))

changed_here : (moment number : ℕ) (touched : List Rid) (new : Rid → Option ℕ) (l : Lock) (seen rest : List Lock) (z : Bool) → has_number number l ≡ true → (length (filter (λ f. not (is_among f touched)) l.features) == 0) ≡ z
    → filter (λ f. is_number l.number (new f)) l.features ≡ filter (λ f. not (is_among f touched)) l.features → live moment (filter (Stays number) seen) ≡ live moment rest
    → live moment (filter (Stays number) (without moment touched l ∷ seen)) ≡ live moment (left_by moment new l ∷ rest)
changed_here moment number touched new l seen rest true has z same e =
    let gone : is_live moment (left_by moment new l) ≡ false = rw same (dead moment (filter (λ f. not (is_among f touched)) l.features) l z) in
    rw (has, z, gone) e
changed_here moment number touched new l seen rest false has z same e =
    let is : left_by moment new l ≡ without moment touched l = ap (λ (fs : List Rid). left_with moment fs l) same ∙ alive moment touched l z in
    subst (λ (m : Lock). live moment (filter (Stays number) (without moment touched l ∷ seen)) ≡ live moment (m ∷ rest)) (sym is) (rw (has, z, e) refl)

left_at : (last moment number : ℕ) (touched : List Rid) (new : Rid → Option ℕ) (l : Lock) (seen rest : List Lock) (a b : Bool) → is_live last l ≡ a → has_number number l ≡ b → last ≤ moment → IsLeft last number touched new l
    → live moment (filter (Stays number) (changed_at number (without moment touched) seen)) ≡ live moment rest
    → live moment (filter (Stays number) (changed_at number (without moment touched) (cond a (l ∷ seen) seen))) ≡ live moment ((if b then left_by moment new l else l) ∷ rest)
left_at last moment number touched new l seen rest true true is has le h e =
    rw has (changed_here moment number touched new l (changed_at number (without moment touched) seen) rest (length (filter (λ f. not (is_among f touched)) l.features) == 0) has refl (h has).1 e)
left_at last moment number touched new l seen rest true false is has le h e = rw has (rw (has, e) refl)
left_at last moment number touched new l seen rest false true is has le h e = absurd (let bad = sym is ∙ (h has).0 in cc)
left_at last moment number touched new l seen rest false false is has le h e = rw (later_ended last moment l le is) e

left_out : (last moment number : ℕ) (touched : List Rid) (new : Rid → Option ℕ) (locks : List Lock) → last ≤ moment → AllByRecursion (IsLeft last number touched new) locks
    → live moment (filter (Stays number) (changed_at number (without moment touched) (live last locks))) ≡ live moment (changed_at number (left_by moment new) locks)
left_out last moment number touched new [] le all = refl
left_out last moment number touched new (l ∷ ls) le all =
    left_at last moment number touched new l (live last ls) (changed_at number (left_by moment new) ls) (is_live last l) (has_number number l) refl refl le all.0 (left_out last moment number touched new ls le all.1)

live_then : (last moment number low : ℕ) (locks : List Lock) → last ≤ moment → IsRising low locks → is_live_number locks moment number ≡ true → AllByRecursion (IsLiveAs last number) locks
live_then last moment number low locks le r live = all_weaker (IsLiveAs moment number) (IsLiveAs last number) locks (λ l h e. later_live last moment l le (h e)) (live_one moment number low locks r live)

pub touched_left : (last moment given number : ℕ) (touched : List Rid) (holds new : Rid → Option ℕ) (locks : List Lock) → last ≤ moment → ((f : Rid) → new f ≡ freed_of number touched holds f) → AreKept last given holds locks → is_live_number locks moment number ≡ true
    → released moment number touched Touched (live last locks) ≡ live moment (changed_at number (left_by moment new) locks)
unfolding released
touched_left last moment given number touched holds new locks le freed kept there =
    left_out last moment number touched new locks le
    (all_weaker (λ l. IsHeldBy last holds l × IsLiveAs last number l) (IsLeft last number touched new) locks (λ l h. is_left last number touched holds new l freed h)
    (all_both (IsHeldBy last holds) (IsLiveAs last number) locks kept.held (live_then last moment number 0 locks le kept.rising there)))

-- what a renewal changes, and what a whole release ends
pub change_seen : (last moment given number : ℕ) (change : Lock → Lock) (holds : Rid → Option ℕ) (locks : List Lock) → last ≤ moment → AreKept last given holds locks → is_live_number locks moment number ≡ true
    → live moment (changed_at number change (live last locks)) ≡ live moment (changed_at number change locks)
change_seen last moment given number change holds locks le kept there = changed_seen last moment number change locks le (live_then last moment number 0 locks le kept.rising there)

pub whole_ended : (last moment given number : ℕ) (touched : List Rid) (holds : Rid → Option ℕ) (locks : List Lock) → last ≤ moment → AreKept last given holds locks → is_live_number locks moment number ≡ true
    → released moment number touched Whole (live last locks) ≡ live moment (changed_at number ended locks)
unfolding released
whole_ended last moment given number touched holds locks le kept there = ended_out moment number (live last locks) ∙ change_seen last moment given number ended holds locks le kept there
