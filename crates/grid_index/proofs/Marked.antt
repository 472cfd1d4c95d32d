-- Features that are found one at a time, each once.
use Rattle.std.proofs.Common.{◌≡◌, ℕ, ◌+◌, ◌<◌, ◌≤◌, Bool, true, false, cond, ◌&&◌, ◌||◌, List, [], ◌∷◌, ◌++◌, length, get_or, take, refl, subst, sym, ap, ◌∙◌}
use Rattle.std.specs.List.{AllByRecursion, IsDistinct, list_any}
use Rattle.std.specs.HashSet.{HashSet, contains}
use Rattle.std.proofs.lemmas.List.{take_more, take_all}
use Rattle.std.proofs.lemmas.List.Folds.{list_any-append}
use Rattle.feature_values.specs.declared.feature.Rid.{Rid}
use Rattle.grid_index.specs.Near.{Placed, is_among, is_same}
use Rattle.grid_index.specs.Found.{pair_eq, AreMarked}
use Rattle.grid_index.proofs.Plain.{or_none, or_three}

pub none_marked : {S : Type 0} (marks : HashSet (ℕ × ℕ) S) (ids : List Rid) → marks.keys ≡ [] → ids ≡ [] → AreMarked marks ids
unfolding IsDistinct
none_marked marks ids e f = record {
  marked = λ id. rw (e, f) refl;
  once = rw f tt;
}

or_left : (a b : Bool) → (a || b) ≡ false → a ≡ false
or_left true b h = h
or_left false b h = refl

or_right : (a b : Bool) → (a || b) ≡ false → b ≡ false
or_right true b h = cc
or_right false b h = h

or_if : (a b : Bool) → (a || (b || false)) ≡ cond b true a
or_if true true = refl
or_if true false = refl
or_if false true = refl
or_if false false = refl

or_end : (a b : Bool) → (a || (b || false)) ≡ (a || b)
or_end a true = refl
or_end a false = refl

all_push : (P : Rid → Type 0) (xs : List Rid) (y : Rid) → AllByRecursion P xs → P y → AllByRecursion P (xs ++ y ∷ [])
all_push P [] y h p = (p, tt)
all_push P (x ∷ xs) y (a, h) p = (a, all_push P xs y h p)

distinct_push : (xs : List Rid) (y : Rid) → IsDistinct is_same xs → is_among y xs ≡ false → IsDistinct is_same (xs ++ y ∷ [])
unfolding IsDistinct
distinct_push [] y h e = (tt, tt)
distinct_push (x ∷ xs) y (a, h) e = (all_push (λ z. is_same x z ≡ false) xs y a (or_left _ _ e), distinct_push xs y h (or_right _ _ e))

pub among_push : (f id : Rid) (ids : List Rid) → is_among f (ids ++ id ∷ []) ≡ (is_among f ids || is_same id f)
among_push f id ids = list_any-append (λ i. is_same i f) ids (id ∷ []) ∙ or_end (is_among f ids) (is_same id f)

-- a feature that was not marked is added
pub marked_push : {S : Type 0} (marks next : HashSet (ℕ × ℕ) S) (ids after : List Rid) (id : Rid) → AreMarked marks ids → contains pair_eq marks (id.kind, id.number) ≡ false → ((q : ℕ × ℕ) → contains pair_eq next q ≡ cond (pair_eq (id.kind, id.number) q) true (contains pair_eq marks q)) → after ≡ ids ++ id ∷ [] → AreMarked next after
marked_push marks next ids after id h new u e = record {
  marked = λ f. ap (is_among f) e ∙ list_any-append (λ i. is_same i f) ids (id ∷ []) ∙ or_if (is_among f ids) (is_same id f) ∙ ap (cond (is_same id f) true) (h.marked f) ∙ sym (u (f.kind, f.number));
  once = let P : List Rid → Type 0 = IsDistinct is_same in subst P (sym e) (distinct_push ids id h.once (h.marked id ∙ new));
}

-- ---- pairs that are gone through, one after another

any_more : (test : Placed → Bool) (xs : List Placed) (i : ℕ) (x : Placed) → i < length xs → x ≡ get_or xs i x → list_any test (take (i + 1) xs) ≡ (list_any test (take i xs) || test x)
any_more test xs i x lt is =
    ap (list_any test) (take_more xs i x lt ∙ ap (λ (p : Placed). take i xs ++ p ∷ []) (sym is)) ∙ list_any-append test (take i xs) (x ∷ []) ∙ ap (λ (b : Bool). list_any test (take i xs) || b) (or_none (test x))

-- a pair that passes is found
pub any_next : (test : Placed → Bool) (xs : List Placed) (i : ℕ) (x : Placed) (start now next : Bool) → i < length xs → x ≡ get_or xs i x → now ≡ (start || list_any test (take i xs)) → next ≡ (now || test x) → next ≡ (start || list_any test (take (i + 1) xs))
any_next test xs i x start now next lt is e f =
    f ∙ ap (λ (b : Bool). b || test x) e ∙ sym (or_three start (list_any test (take i xs)) (test x)) ∙ ap (λ (b : Bool). start || b) (sym (any_more test xs i x lt is))

-- one that does not pass makes no difference
pub any_passed : (test : Placed → Bool) (xs : List Placed) (i : ℕ) (x : Placed) (start now : Bool) → i < length xs → x ≡ get_or xs i x → now ≡ (start || list_any test (take i xs)) → test x ≡ false → now ≡ (start || list_any test (take (i + 1) xs))
any_passed test xs i x start now lt is e f =
    any_next test xs i x start now now lt is e (sym (ap (λ (b : Bool). now || b) f ∙ or_none now))

pub any_start : (test : Placed → Bool) (start : Bool) → start ≡ (start || list_any test [])
any_start test start = sym (or_none start)

pub any_end : (test : Placed → Bool) (xs : List Placed) (i : ℕ) (start now : Bool) → length xs ≤ i → now ≡ (start || list_any test (take i xs)) → now ≡ (start || list_any test xs)
any_end test xs i start now le e = e ∙ ap (λ (ys : List Placed). start || list_any test ys) (take_all i xs le)

-- a pair that is near puts its feature there, and another one nothing
pub near_found : (near same old new : Bool) → near ≡ true → new ≡ (old || same) → new ≡ (old || (near && same))
near_found near same old new is e = e ∙ ap (λ (b : Bool). old || (b && same)) (sym is)

pub far_left : (near same old : Bool) → near ≡ false → old ≡ (old || (near && same))
far_left near same old is = sym (or_none old) ∙ ap (λ (b : Bool). old || (b && same)) (sym is)
