-- What a place has in the lists, as one place changes.
use Rattle.std.proofs.Common.{◌≡◌, ℕ, ◌+◌, ◌-◌, ◌≤◌, Bool, true, false, cond, ◌&&◌, List, [], ◌∷◌, ◌++◌, length, Option, Some, None, refl, sym, ap, subst, ◌∙◌, inl, inr, ⊎_elim, arith}
use Rattle.std.specs.Prelude.{Vec, not, ◌==◌, ◌⊎◌, filter}
use Rattle.std.specs.Cmp.{IsEquivalence, decided}
use Rattle.std.specs.List.{IsDistinct}
use Rattle.std.specs.Map.{lookup, keys_of}
use Rattle.std.specs.Option.{unwrap_or}
use Rattle.std.specs.Vec.{vec_len}
use Rattle.std.proofs.lemmas.Bool.Decides.{nat_tests}
use Rattle.std.proofs.lemmas.Option.{same_Some}
use Rattle.std.proofs.lemmas.Map.Entries.{option_filter, lookup-filter-values}
use Rattle.grid_index.specs.Counts.{one_if, is_pair, times}
use Rattle.grid_index.specs.Lists.{spare_of, listed, spare, pairs_of_all, room_of_all}
use Rattle.grid_index.specs.Near.{Placed}
use Rattle.grid_index.specs.Places.{Place, same_place}
use Rattle.grid_index.proofs.SamePlace.{place_is, place_self}

module _ {Z : Type 0} where
  pub pairs_found : (entries : List (Place × Vec Placed Z)) (place : Place) → unwrap_or (lookup (same_place place) (pairs_of_all entries)) [] ≡ listed (lookup (same_place place) entries)
  pairs_found [] place = refl
  pairs_found (e ∷ es) place = at (same_place place e.0) (pairs_found es place)
    where
      at : (b : Bool) → unwrap_or (lookup (same_place place) (pairs_of_all es)) [] ≡ listed (lookup (same_place place) es)
          → unwrap_or (cond b (Some e.1.items) (lookup (same_place place) (pairs_of_all es))) [] ≡ listed (cond b (Some e.1) (lookup (same_place place) es))
      at true h = refl
      at false h = h

  pub room_found : (entries : List (Place × Vec Placed Z)) (place : Place) → unwrap_or (lookup (same_place place) (room_of_all entries)) 0 ≡ spare (lookup (same_place place) entries)
  room_found [] place = refl
  room_found (e ∷ es) place = at (same_place place e.0) (room_found es place)
    where
      at : (b : Bool) → unwrap_or (lookup (same_place place) (room_of_all es)) 0 ≡ spare (lookup (same_place place) es)
          → unwrap_or (cond b (Some (spare_of e.1)) (lookup (same_place place) (room_of_all es))) 0 ≡ spare (cond b (Some e.1) (lookup (same_place place) es))
      at true h = refl
      at false h = h

  -- ---- one place changes

  module _ (old new : Place → Option (Vec Placed Z)) (place : Place) (now : Vec Placed Z) (set : (q : Place) → new q ≡ cond (same_place place q) (Some now) (old q)) where
    -- what holds at the place, and at each other
    at_each : (P : Place → Bool → Option (Vec Placed Z) → Option (Vec Placed Z) → Type 0) → P place true (old place) (Some now) → ((q : Place) (o : Option (Vec Placed Z)) → P q false o o) → (q : Place) → P q (same_place place q) (old q) (new q)
    at_each P here there q = subst (λ (o : Option (Vec Placed Z)). P q (same_place place q) (old q) o) (sym (set q)) (by_test (same_place place q) refl)
      where
        by_test : (b : Bool) → same_place place q ≡ b → P q b (old q) (cond b (Some now) (old q))
        by_test true is = subst (λ (p : Place). P p true (old p) (Some now)) (place_is place q is) here
        by_test false is = there q (old q)

    pub set_pushed : (was : Vec Placed Z) (x : Placed) → old place ≡ Some was → now.items ≡ was.items ++ x ∷ [] → (q : Place) → listed (new q) ≡ cond (same_place place q) (listed (old q) ++ x ∷ []) (listed (old q))
    set_pushed was x is push = at_each (λ q b o n. listed n ≡ cond b (listed o ++ x ∷ []) (listed o)) (push ∙ ap (λ (o : Option (Vec Placed Z)). listed o ++ x ∷ []) (sym is)) (λ q o. refl)

    pub set_used : (was : Vec Placed Z) → old place ≡ Some was → spare_of was ≤ spare_of now + 1 → (q : Place) → spare (old q) ≤ spare (new q) + one_if (same_place place q)
    set_used was is room = at_each (λ q b o n. spare o ≤ spare n + one_if b) (subst (λ (o : Option (Vec Placed Z)). spare o ≤ spare_of now + 1) (sym is) room) (λ q o. omega arith)

    pub set_same : (was : List Placed) → listed (old place) ≡ was → now.items ≡ was → (q : Place) → listed (new q) ≡ listed (old q)
    set_same was is same = at_each (λ q b o n. listed n ≡ listed o) (same ∙ sym is) (λ q o. refl)

    pub set_roomier : (was : ℕ) → spare (old place) ≡ was → was ≤ spare_of now → (q : Place) → spare (old q) ≤ spare (new q)
    set_roomier was is room = at_each (λ q b o n. spare o ≤ spare n) (subst (λ (n : ℕ). n ≤ spare_of now) (sym is) room) (λ q o. omega arith)

    pub set_taken : (was : Vec Placed Z) (x : Placed) → old place ≡ Some was → ((p : Placed) → times p now.items ≡ times p was.items - one_if (is_pair p x))
        → (q : Place) (p : Placed) → times p (listed (new q)) ≡ times p (listed (old q)) - one_if (same_place place q && is_pair p x)
    set_taken was x is take = at_each (λ q b o n. (p : Placed) → times p (listed n) ≡ times p (listed o) - one_if (b && is_pair p x))
        (λ p. take p ∙ ap (λ (o : Option (Vec Placed Z)). times p (listed o) - one_if (is_pair p x)) (sym is)) (λ q o p. omega arith)

    pub set_here : spare (new place) ≡ spare_of now
    set_here = ap spare (set place ∙ ap (λ (b : Bool). cond b (Some now) (old place)) (place_self place))

  -- nothing is at a place, so nothing goes from there
  pub none_taken : (old : Place → Option (Vec Placed Z)) (place : Place) (x : Placed) → old place ≡ None → (q : Place) (p : Placed) → times p (listed (old q)) ≡ times p (listed (old q)) - one_if (same_place place q && is_pair p x)
  none_taken old place x none q p = by_test (same_place place q) refl
    where
      by_test : (b : Bool) → same_place place q ≡ b → times p (listed (old q)) ≡ times p (listed (old q)) - one_if (b && is_pair p x)
      by_test true is = (let nothing : times p (listed (old q)) ≡ 0 = ap (λ (r : Place). times p (listed (old r))) (sym (place_is place q is)) ∙ ap (λ (o : Option (Vec Placed Z)). times p (listed o)) none in omega (arith, nothing))
      by_test false is = omega arith

-- ---- places whose lists are empty are forgotten

pub place_laws : IsEquivalence same_place
place_laws = decided same_place (λ a b. (place_is a b, λ e. subst (λ (p : Place). same_place a p ≡ true) e (place_self a)))

module _ {Z : Type 0} where
  pub kept_at : (entries kept : List (Place × Vec Placed Z)) (q : Place) → IsDistinct same_place (keys_of entries) → kept ≡ filter (λ e. not (vec_len e.1 == 0)) entries → listed (lookup (same_place q) kept) ≡ listed (lookup (same_place q) entries)
  kept_at entries kept q unique is =
      ap (λ (es : List (Place × Vec Placed Z)). listed (lookup (same_place q) es)) is ∙ ap listed (lookup-filter-values place_laws (λ v. not (vec_len v == 0)) q entries unique) ∙ by_list (lookup (same_place q) entries)
    where
      by_list : (o : Option (Vec Placed Z)) → listed (option_filter (λ v. not (vec_len v == 0)) o) ≡ listed o
      by_list None = refl
      by_list (Some v) = by_test (vec_len v == 0) refl
        where
          nothing : (xs : List Placed) → length xs ≡ 0 → [] ≡ xs
          nothing [] e = refl
          nothing (x ∷ xs) e = absurd (omega (arith, e))

          by_test : (b : Bool) → (vec_len v == 0) ≡ b → listed (cond (not b) (Some v) None) ≡ v.items
          by_test true e = nothing v.items (let len : vec_len v ≡ 0 = grind (arith, nat_tests, e) in let same = v.ok.0 in omega (arith, len, same))
          by_test false e = refl

-- ---- places are counted

-- a place was counted once more
pub counted_one : (old new : Place → Option ℕ) (place : Place) (more : ℕ) → more ≡ unwrap_or (old place) 0 + 1 → ((q : Place) → new q ≡ cond (same_place place q) (Some more) (old q)) → (q : Place) → unwrap_or (new q) 0 ≡ unwrap_or (old q) 0 + one_if (same_place place q)
counted_one old new place more is set q = ap (λ (o : Option ℕ). unwrap_or o 0) (set q) ∙ by_test (same_place place q) refl
  where
    by_test : (b : Bool) → same_place place q ≡ b → unwrap_or (cond b (Some more) (old q)) 0 ≡ unwrap_or (old q) 0 + one_if b
    by_test true e = is ∙ ap (λ (p : Place). unwrap_or (old p) 0 + 1) (place_is place q e)
    by_test false e = omega arith

-- each place that is counted waits for its turn, or has room
abbrev pub HasTurn : List (Place × ℕ) → List (Place × ℕ) → (Place → ℕ) → Type 0
HasTurn entries rest room = (q : Place) (n : ℕ) → lookup (same_place q) entries ≡ Some n → (lookup (same_place q) rest ≡ Some n) ⊎ (n ≤ room q)

pub turn_next : (entries s t : List (Place × ℕ)) (place : Place) (n : ℕ) (now next : Place → ℕ) → s ≡ (place, n) ∷ t → ((q : Place) → now q ≤ next q) → n ≤ next place → HasTurn entries s now → HasTurn entries t next
turn_next entries s t place n now next is more here h q m e = ⊎_elim (λ (wait : lookup (same_place q) s ≡ Some m). by_test (same_place q place) refl (ap (lookup (same_place q)) (sym is) ∙ wait)) (λ (room : m ≤ now q). inr (let there = more q in omega (arith, room, there))) (h q m e)
  where
    by_test : (b : Bool) → same_place q place ≡ b → cond b (Some n) (lookup (same_place q) t) ≡ Some m → (lookup (same_place q) t ≡ Some m) ⊎ (m ≤ next q)
    by_test true same e = inr (subst (λ (p : Place). m ≤ next p) (sym (place_is q place same)) (subst (λ (k : ℕ). k ≤ next place) (same_Some n m e) here))
    by_test false other e = inl e

pub turn_end : (entries s : List (Place × ℕ)) (room : Place → ℕ) → s ≡ [] → HasTurn entries s room → (q : Place) → unwrap_or (lookup (same_place q) entries) 0 ≤ room q
turn_end entries s room is h q = by_count (lookup (same_place q) entries) refl
  where
    by_count : (o : Option ℕ) → lookup (same_place q) entries ≡ o → unwrap_or o 0 ≤ room q
    by_count None e = omega arith
    by_count (Some n) e = ⊎_elim (λ (wait : lookup (same_place q) s ≡ Some n). absurd (let none : None ≡ Some n = sym (ap (lookup (same_place q)) is) ∙ wait in cc)) (λ (fits : n ≤ room q). fits) (h q n e)
