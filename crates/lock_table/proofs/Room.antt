-- The map by feature has no more entries than the kept locks list features, and these are those of the live ones where
-- no deadline that has come is queued.
use Rattle.std.proofs.Common.{◌≡◌, ℕ, ◌+◌, ◌<◌, ◌≤◌, Bool, true, false, cond, ◌&&◌, ◌||◌, List, [], ◌∷◌, ◌++◌, length, map, Option, Some, None, refl, sym, ap, ◌∙◌, arith}
use Rattle.std.specs.Prelude.{◌==◌, not, is_some}
use Rattle.std.specs.List.{AllByRecursion, filter, list_any}
use Rattle.std.specs.HashMap.{HashMap, IsUnique, hash_map_len, get, keys}
use Rattle.std.specs.Map.{keys_of}
use Rattle.std.specs.Cmp.{IsEquivalence}
use Rattle.std.proofs.lemmas.Cmp.{nat_eq_equiv, on_equiv, and_equiv}
use Rattle.std.proofs.lemmas.List.Sums.{sum_by-cons}
use Rattle.std.proofs.lemmas.Map.Made.{is_some-lookup, length-le_from_is_member}
use Rattle.feature_values.specs.declared.feature.Rid.{Rid}
use Rattle.lock_table.specs.Lock.{Lock}
use Rattle.lock_table.specs.Held.{is_live, live, is_same, is_among, lists, has_number, feature_count}
use Rattle.lock_table.specs.Kept.{pair_eq, number_at, is_listed, AreListed}
use Rattle.lock_table.specs.Queue.{Due, has_come, awaits_end, is_queued, AreQueued}
use Rattle.lock_table.proofs.Queued.{all_later, queued_live}
use Rattle.lock_table.proofs.Rising.{all_weaker}

per_lock : Lock → ℕ
per_lock l = length l.features

-- the keys of what locks list

abbrev key_of : Rid → ℕ × ℕ
key_of f = (f.kind, f.number)

abbrev all_keys : List Lock → List (ℕ × ℕ)
all_keys [] = []
all_keys (l ∷ ls) = map key_of l.features ++ all_keys ls

length_keys : (features : List Rid) (more : List (ℕ × ℕ)) → length (map key_of features ++ more) ≡ length features + length more
length_keys [] more = omega arith
length_keys (f ∷ fs) more = let rest = length_keys fs more in omega (arith, rest)

length_all : (locks : List Lock) → length (all_keys locks) ≡ feature_count locks
length_all [] = refl
length_all (l ∷ ls) = length_keys l.features (all_keys ls) ∙ ap (λ (n : ℕ). length l.features + n) (length_all ls) ∙ sym (sum_by-cons (λ (m : Lock). length m.features) l ls)

either : (a b c d : Bool) → (a ≡ true → c ≡ true) → (b ≡ true → d ≡ true) → (a || b) ≡ true → (c || d) ≡ true
either true b true d f g e = refl
either true b false d f g e = absurd (let bad = f refl in cc)
either false b true d f g e = refl
either false b false d f g e = g e

same_key : (f feature : Rid) → is_same f feature ≡ true → pair_eq (key_of feature) (key_of f) ≡ true
same_key f feature e = grind (arith, e)

any_first : (p : ℕ × ℕ → Bool) (xs ys : List (ℕ × ℕ)) → list_any p xs ≡ true → list_any p (xs ++ ys) ≡ true
any_first p [] ys e = absurd (let bad = e in cc)
any_first p (x ∷ xs) ys e = either (p x) (list_any p xs) (p x) (list_any p (xs ++ ys)) (λ here. here) (any_first p xs ys) e

any_then : (p : ℕ × ℕ → Bool) (xs ys : List (ℕ × ℕ)) → list_any p ys ≡ true → list_any p (xs ++ ys) ≡ true
any_then p [] ys e = e
any_then p (x ∷ xs) ys e = either false (list_any p ys) (p x) (list_any p (xs ++ ys)) (λ bad. absurd (let worse = bad in cc)) (any_then p xs ys) e

among_keys : (feature : Rid) (features : List Rid) → is_among feature features ≡ true → list_any (pair_eq (key_of feature)) (map key_of features) ≡ true
among_keys feature [] e = absurd (let bad = e in cc)
among_keys feature (f ∷ fs) e = either (is_same f feature) (is_among feature fs) (pair_eq (key_of feature) (key_of f)) (list_any (pair_eq (key_of feature)) (map key_of fs)) (same_key f feature) (among_keys feature fs) e

right_both : (a b : Bool) → (a && b) ≡ true → b ≡ true
right_both true b e = e
right_both false b e = absurd (let bad = e in cc)

listed_at : (a b c d : Bool) → (a ≡ true → c ≡ true) → (b ≡ true → c ≡ true) → (a || b) ≡ true → c ≡ true
listed_at true b c d f g e = f refl
listed_at false b c d f g e = g e

listed_keys : (n : ℕ) (feature : Rid) (locks : List Lock) → is_listed n feature locks ≡ true → list_any (pair_eq (key_of feature)) (all_keys locks) ≡ true
listed_keys n feature [] e = absurd (let bad = e in cc)
listed_keys n feature (l ∷ ls) e =
    listed_at (has_number n l && lists feature l) (is_listed n feature ls) (list_any (pair_eq (key_of feature)) (map key_of l.features ++ all_keys ls)) true
    (λ here. any_first (pair_eq (key_of feature)) (map key_of l.features) (all_keys ls) (among_keys feature l.features (right_both (has_number n l) (lists feature l) here)))
    (λ later. any_then (pair_eq (key_of feature)) (map key_of l.features) (all_keys ls) (listed_keys n feature ls later)) e

pair_equiv : IsEquivalence pair_eq
pair_equiv = and_equiv (on_equiv (λ (p : ℕ × ℕ). p.0) nat_eq_equiv) (on_equiv (λ (p : ℕ × ℕ). p.1) nat_eq_equiv)

some_listed : {S : Type 0} (numbers : HashMap (ℕ × ℕ) ℕ S) (locks : List Lock) (key : ℕ × ℕ) (o : Option ℕ) → AreListed (number_at numbers) locks → get pair_eq numbers key ≡ o → is_some o ≡ true → list_any (pair_eq key) (all_keys locks) ≡ true
some_listed numbers locks key None listed is some = absurd (let bad = some in cc)
some_listed numbers locks key (Some n) listed is some = listed_keys n (record { kind = key.0; number = key.1 }) locks (listed (record { kind = key.0; number = key.1 }) n is)

length_keys_of : (es : List ((ℕ × ℕ) × ℕ)) → length (keys_of es) ≡ length es
length_keys_of [] = refl
length_keys_of (e ∷ es) = let rest = length_keys_of es in omega (arith, rest)

pub map_within : {S : Type 0} (numbers : HashMap (ℕ × ℕ) ℕ S) (locks : List Lock) → IsUnique pair_eq numbers → AreListed (number_at numbers) locks → hash_map_len numbers ≤ feature_count locks
map_within numbers locks unique listed =
    let within = length-le_from_is_member pair_equiv (keys numbers) (all_keys locks) unique (λ key member. some_listed numbers locks key (get pair_eq numbers key) listed refl (is_some-lookup (pair_eq key) numbers.entries ∙ member)) in
    omega (arith, within, length_keys_of numbers.entries, length_all locks)

-- the features of the live locks

fewer_at : (l : Lock) (seen rest : List Lock) (b : Bool) → feature_count seen ≤ feature_count rest → feature_count (cond b (l ∷ seen) seen) ≤ feature_count (l ∷ rest)
fewer_at l seen rest true le = omega (arith, le, sum_by-cons (λ (m : Lock). length m.features) l seen, sum_by-cons (λ (m : Lock). length m.features) l rest)
fewer_at l seen rest false le = omega (arith, le, sum_by-cons (λ (m : Lock). length m.features) l rest)

pub fewer_listed : (q : Lock → Bool) (locks : List Lock) → feature_count (filter q locks) ≤ feature_count locks
fewer_listed q [] = omega arith
fewer_listed q (l ∷ ls) = fewer_at l (filter q ls) ls (q l) (fewer_listed q ls)

same_at : (last : ℕ) (l : Lock) (seen rest : List Lock) (b : Bool) → is_live last l ≡ b → (is_live last l ≡ false → length l.features ≡ 0) → feature_count rest ≡ feature_count seen → feature_count (l ∷ rest) ≡ feature_count (cond b (l ∷ seen) seen)
same_at last l seen rest true is none e = omega (arith, e, sum_by-cons (λ (m : Lock). length m.features) l seen, sum_by-cons (λ (m : Lock). length m.features) l rest)
same_at last l seen rest false is none e = omega (arith, e, none is, sum_by-cons (λ (m : Lock). length m.features) l rest)

same_count : (last : ℕ) (locks : List Lock) → AllByRecursion (λ l. is_live last l ≡ false → length l.features ≡ 0) locks → feature_count locks ≡ feature_count (live last locks)
same_count last [] all = refl
same_count last (l ∷ ls) all = same_at last l (live last ls) ls (is_live last l) refl all.0 (same_count last ls all.1)

none_left_at : (a b : Bool) (n : ℕ) → (a || not (n == 0)) ≡ b → (b ≡ true → ⊥) → n ≡ 0
none_left_at a true n is h = absurd (h refl)
none_left_at true false n is h = absurd (let bad = is in cc)
none_left_at false false n is h = grind (arith, is)

none_left : (last : ℕ) (queue : List Due) (l : Lock) → AllByRecursion (λ e. last < e.0.0) queue → (awaits_end l ≡ true → is_queued queue l ≡ true) → is_live last l ≡ false → length l.features ≡ 0
none_left last queue l later queued dead = none_left_at (is_live 0 l) (awaits_end l) (length l.features) refl (λ awaits. let bad = sym dead ∙ queued_live last queue l later (queued awaits) in cc)

-- where no entry has come, the locks that have ended list nothing
pub listed_live : (last : ℕ) (queue : List Due) (locks : List Lock) → list_any (has_come last) queue ≡ false → AreQueued queue locks → feature_count locks ≡ feature_count (live last locks)
listed_live last queue locks none queued =
    same_count last locks (all_weaker (λ l. awaits_end l ≡ true → is_queued queue l ≡ true) (λ l. is_live last l ≡ false → length l.features ≡ 0) locks (λ l h. none_left last queue l (all_later last queue none) h) queued)
