-- Each feature that the map names is listed by the lock that it names.
use Rattle.std.proofs.Common.{◌≡◌, ℕ, ◌+◌, ◌<◌, Bool, true, false, cond, ◌&&◌, ◌||◌, List, [], ◌∷◌, ◌++◌, length, get_or, take, Option, Some, None, refl, sym, subst, ◌∙◌, arith}
use Rattle.std.specs.Prelude.{◌==◌, if◌then◌else◌}
use Rattle.std.specs.List.{AllByRecursion, filter, list_any}
use Rattle.feature_values.specs.declared.feature.Rid.{Rid}
use Rattle.lock_table.specs.Lock.{Lock}
use Rattle.lock_table.specs.Held.{is_live, live, is_same, is_among, lists, first_of, has_number, features_of, IsRising}
use Rattle.lock_table.specs.Kept.{is_number, given_to, freed_of, is_listed, AreListed, IsFreed, ended, ended_features, left_by}
use Rattle.lock_table.specs.Steps.{new_lock, renewed_lock, changed_at}
use Rattle.lock_table.proofs.Map.{same_is}
use Rattle.lock_table.proofs.Queued.{all_taken_more}
use Rattle.lock_table.proofs.Rising.{HasNot, above, is_number_of, all_weaker}

-- tests of lists

either : (a b c d : Bool) → (a ≡ true → c ≡ true) → (b ≡ true → d ≡ true) → (a || b) ≡ true → (c || d) ≡ true
either true b true d f g e = refl
either true b false d f g e = absurd (let bad = f refl in cc)
either false b true d f g e = refl
either false b false d f g e = g e

first_of_two : (a b : Bool) → b ≡ false → (a || b) ≡ true → a ≡ true
first_of_two true b none e = refl
first_of_two false b none e = absurd (let bad = sym none ∙ e in cc)

left_both : (a b : Bool) → (a && b) ≡ true → a ≡ true
left_both true b e = refl
left_both false b e = e

right_both : (a b : Bool) → (a && b) ≡ true → b ≡ true
right_both true b e = e
right_both false b e = absurd (let bad = e in cc)

both : (a b : Bool) → a ≡ true → b ≡ true → (a && b) ≡ true
both a b e f = rw (e, f) refl

any_changed : (p : Lock → Bool) (number : ℕ) (change : Lock → Lock) (locks : List Lock) → ((l : Lock) → p l ≡ true → p (if has_number number l then change l else l) ≡ true) → list_any p locks ≡ true → list_any p (changed_at number change locks) ≡ true
any_changed p number change [] h e = e
any_changed p number change (l ∷ ls) h e = either (p l) (list_any p ls) (p (if has_number number l then change l else l)) (list_any p (changed_at number change ls)) (h l) (any_changed p number change ls h) e

if_changed : (p : Lock → Bool) (change : Lock → Lock) (l : Lock) (b : Bool) → (b ≡ true → p (change l) ≡ true) → (b ≡ false → p l ≡ true) → p (if b then change l else l) ≡ true
if_changed p change l true this other = this refl
if_changed p change l false this other = other refl

any_more : (p : Lock → Bool) (locks more : List Lock) → list_any p locks ≡ true → list_any p (locks ++ more) ≡ true
any_more p [] more e = absurd (let bad = e in cc)
any_more p (l ∷ ls) more e = either (p l) (list_any p ls) (p l) (list_any p (ls ++ more)) (λ here. here) (any_more p ls more) e

last_of_two : (a b : Bool) → b ≡ true → (a || b) ≡ true
last_of_two true b e = refl
last_of_two false b e = e

first_or : (a b : Bool) → a ≡ true → (a || b) ≡ true
first_or a b e = rw e refl

any_last : (p : Lock → Bool) (locks : List Lock) (l : Lock) → p l ≡ true → list_any p (locks ++ l ∷ []) ≡ true
any_last p [] l e = first_or (p l) false e
any_last p (k ∷ ks) l e = last_of_two (p k) (list_any p (ks ++ l ∷ [])) (any_last p ks l e)

any_kept_at : (p : Lock → Bool) (l : Lock) (kept rest : List Lock) (b : Bool) → (p l ≡ true → b ≡ true) → (list_any p rest ≡ true → list_any p kept ≡ true) → (p l || list_any p rest) ≡ true → list_any p (cond b (l ∷ kept) kept) ≡ true
any_kept_at p l kept rest true h later e = either (p l) (list_any p rest) (p l) (list_any p kept) (λ here. here) later e
any_kept_at p l kept rest false h later e = either (p l) (list_any p rest) false (list_any p kept) (λ here. absurd (let bad = h here in cc)) later e

any_kept : (p q : Lock → Bool) (locks : List Lock) → AllByRecursion (λ l. p l ≡ true → q l ≡ true) locks → list_any p locks ≡ true → list_any p (filter q locks) ≡ true
any_kept p q [] all e = e
any_kept p q (l ∷ ls) all e = any_kept_at p l (filter q ls) ls (q l) all.0 (any_kept p q ls all.1) e

-- a map that names less

fewer_at : (b : Bool) (o : Option ℕ) (n : ℕ) → (if b then None else o) ≡ Some n → o ≡ Some n
fewer_at true o n e = absurd (let bad = e in cc)
fewer_at false o n e = e

module _ (number : ℕ) (features : List Rid) (holds new : Rid → Option ℕ) (freed : (f : Rid) → new f ≡ freed_of number features holds f) where
  pub freed_fewer : (f : Rid) (n : ℕ) → new f ≡ Some n → holds f ≡ Some n
  freed_fewer f n e = fewer_at _ (holds f) n (sym (freed f) ∙ e)

pub fewer_listed : (holds new : Rid → Option ℕ) (locks : List Lock) → ((f : Rid) (n : ℕ) → new f ≡ Some n → holds f ≡ Some n) → AreListed holds locks → AreListed new locks
fewer_listed holds new locks fewer listed f n e = listed f n (fewer f n e)

-- a renewal

pub renewed_listed : (moment number : ℕ) (period : Option ℕ) (holds : Rid → Option ℕ) (locks : List Lock) → AreListed holds locks → AreListed holds (changed_at number (renewed_lock moment period) locks)
renewed_listed moment number period holds locks listed f n e =
    any_changed (λ l. has_number n l && lists f l) number (renewed_lock moment period) locks (λ l h. if_changed (λ m. has_number n m && lists f m) (renewed_lock moment period) l (has_number number l) (λ _. h) (λ _. h)) (listed f n e)

-- a lock that ends

none_listed : (number : ℕ) (f : Rid) (locks : List Lock) → AllByRecursion (HasNot number) locks → is_listed number f locks ≡ false
none_listed number f [] none = refl
none_listed number f (l ∷ ls) none = rw none.0 (none_listed number f ls none.1)

features_listed_at : (number : ℕ) (f : Rid) (l : Lock) (ls : List Lock) (b : Bool) → has_number number l ≡ b → IsRising l.number ls → (is_listed number f ls ≡ true → is_among f (features_of ls number) ≡ true) → is_listed number f (l ∷ ls) ≡ true
    → is_among f (features_of (l ∷ ls) number) ≡ true
unfolding first_of
features_listed_at number f l ls true has r later e =
    let none = none_listed number f ls (above l.number ls r number (omega (arith, is_number_of l.number number has))) in
    rw has (right_both (has_number number l) (lists f l) (first_of_two (has_number number l && lists f l) (is_listed number f ls) none e))
features_listed_at number f l ls false has r later e = rw has (later (rw has at e))

features_listed : (number low : ℕ) (f : Rid) (locks : List Lock) → IsRising low locks → is_listed number f locks ≡ true → is_among f (features_of locks number) ≡ true
features_listed number low f [] r e = absurd (let bad = e in cc)
features_listed number low f (l ∷ ls) r e = features_listed_at number f l ls (has_number number l) refl r.1 (features_listed number l.number f ls r.1) e

freed_here : (number : ℕ) (a : Bool) (o : Option ℕ) → a ≡ true → is_number number o ≡ true → (if a && is_number number o then None else o) ≡ None
freed_here number a o e is = rw (e, is) refl

itself : (n : ℕ) → (n == n) ≡ true
itself n = grind arith

no_other : (n number : ℕ) (l : Lock) → (n == number) ≡ false → has_number n l ≡ true → has_number number l ≡ true → ⊥
no_other n number l ne e f =
    let here : l.number ≡ n = is_number_of l.number n e in
    let there : l.number ≡ number = is_number_of l.number number f in
    let bad : (n == number) ≡ true = grind (arith, here, there) in let worse = sym ne ∙ bad in cc

module _ (number : ℕ) (features : List Rid) (holds new : Rid → Option ℕ) (locks : List Lock) (freed : (f : Rid) → new f ≡ freed_of number features holds f) (rising : IsRising 0 locks) (all : features ≡ features_of locks number) (listed : AreListed holds locks) where
  ended_listed_at : (f : Rid) (n : ℕ) (b : Bool) → (n == number) ≡ b → new f ≡ Some n → is_listed n f (changed_at number ended locks) ≡ true
  ended_listed_at f n true same e =
      let before : holds f ≡ Some n = freed_fewer number features holds new freed f n e in
      let is : n ≡ number = is_number_of n number same in
      let among : is_among f features ≡ true = rw all (features_listed number 0 f locks rising (subst (λ (m : ℕ). is_listed m f locks ≡ true) is (listed f n before))) in
      let held : is_number number (holds f) ≡ true = rw (before, is) (itself number) in
      absurd (let bad = sym e ∙ freed f ∙ freed_here number (is_among f features) (holds f) among held in cc)
  ended_listed_at f n false ne e =
      any_changed (λ l. has_number n l && lists f l) number ended locks
      (λ l h. if_changed (λ m. has_number n m && lists f m) ended l (has_number number l) (λ has. absurd (no_other n number l ne (left_both (has_number n l) (lists f l) h) has)) (λ _. h))
      (listed f n (freed_fewer number features holds new freed f n e))

  pub ended_listed : AreListed new (changed_at number ended locks)
  ended_listed f n e = ended_listed_at f n (n == number) refl e

-- features that a lock leaves

and_no : (a : Bool) → (a && false) ≡ false
and_no true = refl
and_no false = refl

among_filter : (q : Rid → Bool) (f x : Rid) (rest kept : List Rid) (b c : Bool) → is_same x f ≡ b → q x ≡ c → is_among f kept ≡ (is_among f rest && q f) → is_among f (cond c (x ∷ kept) kept) ≡ ((b || is_among f rest) && q f)
among_filter q f x rest kept true true same is h = rw same (sym (subst (λ (y : Rid). q y ≡ true) (same_is x f same) is))
among_filter q f x rest kept true false same is h = let not_f : q f ≡ false = subst (λ (y : Rid). q y ≡ false) (same_is x f same) is in h ∙ rw not_f (and_no (is_among f rest)) ∙ sym not_f
among_filter q f x rest kept false true same is h = rw same h
among_filter q f x rest kept false false same is h = h

pub among_kept : (q : Rid → Bool) (f : Rid) (xs : List Rid) → is_among f (filter q xs) ≡ (is_among f xs && q f)
among_kept q f [] = refl
among_kept q f (x ∷ xs) = among_filter q f x xs (filter q xs) (is_same x f) (q x) refl refl (among_kept q f xs)

pub left_listed : (moment number : ℕ) (holds new : Rid → Option ℕ) (locks : List Lock) → ((f : Rid) (n : ℕ) → new f ≡ Some n → holds f ≡ Some n) → AreListed holds locks → AreListed new (changed_at number (left_by moment new) locks)
left_listed moment number holds new locks fewer listed f n e =
    any_changed (λ l. has_number n l && lists f l) number (left_by moment new) locks
    (λ l h. if_changed (λ m. has_number n m && lists f m) (left_by moment new) l (has_number number l)
    (λ _.
    let has = left_both (has_number n l) (lists f l) h in
    let stays : is_number l.number (new f) ≡ true = rw e has in
    both (has_number n l) (is_among f (filter (λ g. is_number l.number (new g)) l.features)) has
    (among_kept (λ g. is_number l.number (new g)) f l.features ∙ both (is_among f l.features) (is_number l.number (new f)) (right_both (has_number n l) (lists f l) h) stays))
    (λ _. h))
    (listed f n (fewer f n e))

-- a grant

granted_at : (given period moment : ℕ) (features : List Rid) (holds : Rid → Option ℕ) (locks : List Lock) (f : Rid) (n : ℕ) (a : Bool) → is_among f features ≡ a → (if a then Some (given + 1) else holds f) ≡ Some n → AreListed holds locks
    → is_listed n f (locks ++ new_lock given features moment period ∷ []) ≡ true
granted_at given period moment features holds locks f n true among e listed =
    let is : given + 1 ≡ n = cc in
    any_last (λ l. has_number n l && lists f l) locks (new_lock given features moment period) (both (given + 1 == n) (is_among f features) (rw is (itself n)) among)
granted_at given period moment features holds locks f n false among e listed = any_more (λ l. has_number n l && lists f l) locks (new_lock given features moment period ∷ []) (listed f n e)

pub granted_listed : (moment given period : ℕ) (features : List Rid) (holds new : Rid → Option ℕ) (locks : List Lock) → ((f : Rid) → new f ≡ given_to (given + 1) features holds f) → AreListed holds locks → AreListed new (locks ++ new_lock given features moment period ∷ [])
granted_listed moment given period features holds new locks given_all listed f n e = granted_at given period moment features holds locks f n (is_among f features) refl (sym (given_all f) ∙ e) listed

-- locks that are swept

fewer_freed_at : (k : ℕ) (b : Bool) (o : Option ℕ) → is_number k o ≡ false → is_number k (if b then None else o) ≡ false
fewer_freed_at k true o e = refl
fewer_freed_at k false o e = e

freed_now : (k : ℕ) (a b : Bool) (o : Option ℕ) → a ≡ true → is_number k o ≡ b → is_number k (if a && is_number k o then None else o) ≡ false
freed_now k a true o e is = rw (e, is) refl
freed_now k a false o e is = fewer_freed_at k (a && is_number k o) o is

freed_ended : (last : ℕ) (l : Lock) (holds new : Rid → Option ℕ) (b : Bool) → is_live last l ≡ b → ((f : Rid) → new f ≡ freed_of l.number (if b then [] else l.features) holds f) → IsFreed last new l
freed_ended last l holds new true is freed dead f listed = absurd (let bad = sym is ∙ dead in cc)
freed_ended last l holds new false is freed dead f listed = rw (freed f) (freed_now l.number (is_among f l.features) (is_number l.number (holds f)) (holds f) listed refl)

pub freed_step : (last i : ℕ) (d : Lock) (holds new : Rid → Option ℕ) (locks : List Lock) → i < length locks → ((f : Rid) → new f ≡ freed_of (get_or locks i d).number (ended_features last (get_or locks i d)) holds f)
    → AllByRecursion (IsFreed last holds) (take i locks) → AllByRecursion (IsFreed last new) (take (i + 1) locks)
freed_step last i d holds new locks lt freed all =
    all_taken_more (IsFreed last new) locks i d lt
    (all_weaker (IsFreed last holds) (IsFreed last new) (take i locks) (λ l h dead f listed. rw (freed f) (fewer_freed_at l.number _ (holds f) (h dead f listed))) all)
    (freed_ended last (get_or locks i d) holds new (is_live last (get_or locks i d)) refl freed)

live_if_held_at : (last n : ℕ) (holds : Rid → Option ℕ) (f : Rid) (l : Lock) (b : Bool) → is_live last l ≡ b → holds f ≡ Some n → IsFreed last holds l → (has_number n l && lists f l) ≡ true → b ≡ true
live_if_held_at last n holds f l true is e freed h = refl
live_if_held_at last n holds f l false is e freed h =
    let none : is_number l.number (holds f) ≡ false = freed is f (right_both (has_number n l) (lists f l) h) in
    let some : is_number l.number (holds f) ≡ true = rw e (left_both (has_number n l) (lists f l) h) in
    absurd (let bad = sym none ∙ some in cc)

-- where the locks that have ended hold nothing, those that are live list all that is named
pub live_listed : (last : ℕ) (holds : Rid → Option ℕ) (locks : List Lock) → AllByRecursion (IsFreed last holds) locks → AreListed holds locks → AreListed holds (live last locks)
live_listed last holds locks freed listed f n e =
    any_kept (λ l. has_number n l && lists f l) (is_live last) locks
    (all_weaker (IsFreed last holds) (λ l. (has_number n l && lists f l) ≡ true → is_live last l ≡ true) locks (λ l h here. live_if_held_at last n holds f l (is_live last l) refl e h here) freed)
    (listed f n e)
