-- A list that stands in several lists, each of the greatest length but the last: what stands at a place, and what a change of one list makes.
use Rattle.std.proofs.Common.{◌≡◌, ℕ, zero, suc, ◌+◌, ◌-◌, ◌*◌, ◌<◌, ◌≤◌, List, [], ◌∷◌, ◌++◌, length, get_or, refl, sym, ◌∙◌, ap, subst, inl, inr, arith, length-append, append_assoc, drop, take, min}
use Rattle.std.specs.Prelude.{◌⊎◌, Some, None, Result, Ok, Err, OnOk}
use Rattle.std.specs.List.{slice_get}
use Rattle.std.proofs.Math.ListN.{set}
use Rattle.std.proofs.lemmas.List.{append-nil, nil_from_length, set-append_left, set-append_right, length_push, length-take, length-set, length-drop, drop_all, drop-append-le, take_at, take_all, take-take}
use Rattle.std.proofs.lemmas.Option.{slice_get_past, get_or_from_slice_get}
use Rattle.std.proofs.lemmas.Bool.{cases_lt}
use Rattle.paged_list.specs.Flat.{flat, IsEven, added_at}

module _ {X : Type 0} where
  -- where no items are left, no list has any
  none_left : (c n : ℕ) (ps : List (List X)) → n ≡ 0 → IsEven c n ps → flat ps ≡ []
  none_left c n [] z e = refl
  none_left c n (p ∷ ps) z e =
      let a : p ≡ [] = nil_from_length p (omega (arith, e.0)) in
      let b : flat ps ≡ [] = none_left c (n - c) ps (omega arith) e.1 in
      rw (a, b) refl

  none_at : (c n : ℕ) (ps : List (List X)) (i : ℕ) → n ≡ 0 → IsEven c n ps → get_or ps i [] ≡ []
  none_at c n [] i z e = refl
  none_at c n (p ∷ ps) zero z e = nil_from_length p (omega (arith, e.0))
  none_at c n (p ∷ ps) (suc i) z e = none_at c (n - c) ps i (omega arith) e.1

  pub length_is : (c n : ℕ) (ps : List (List X)) → IsEven c n ps → length (flat ps) ≡ n
  length_is c n [] e = sym e
  length_is c n (p ∷ ps) e = omega (arith, e.0, length-append p (flat ps), length_is c (n - c) ps e.1)

  most_items : (c n : ℕ) (ps : List (List X)) → IsEven c n ps → n ≤ c * length ps
  most_items c n [] e = omega (arith, e)
  most_items c n (p ∷ ps) e = omega (arith, most_items c (n - c) ps e.1)

  -- how many items a list has
  length_at : (c n : ℕ) (ps : List (List X)) (i : ℕ) → IsEven c n ps → length (get_or ps i []) ≡ min c (n - c * i)
  length_at c n [] i e = omega (arith, e)
  length_at c n (p ∷ ps) zero e = omega (arith, e.0)
  length_at c n (p ∷ ps) (suc i) e = omega (arith, length_at c (n - c) ps i e.1)

  at_left : (xs ys : List X) (k : ℕ) → k < length xs → slice_get (xs ++ ys) k ≡ slice_get xs k
  at_left [] ys k h = absurd (omega arith)
  at_left (x ∷ xs) ys zero h = refl
  at_left (x ∷ xs) ys (suc k) h = at_left xs ys k (omega arith)

  at_right : (xs ys : List X) (m k : ℕ) → m ≡ length xs + k → slice_get (xs ++ ys) m ≡ slice_get ys k
  at_right [] ys m k q = let e : m ≡ k = omega arith in ap (λ t. slice_get ys t) e
  at_right (x ∷ xs) ys zero k q = absurd (omega arith)
  at_right (x ∷ xs) ys (suc m) k q = at_right xs ys m k (omega arith)

  -- the item of the first list, or of none where it is the last list and ends before
  get_first : (c n : ℕ) (p : List X) (ps : List (List X)) (j m : ℕ) → IsEven c n (p ∷ ps) → j < c → m ≡ j → (j < length p) ⊎ (length p ≤ j) → slice_get (p ++ flat ps) m ≡ slice_get p j
  get_first c n p ps j m e h q (inl a) = ap (λ t. slice_get (p ++ flat ps) t) q ∙ at_left p (flat ps) j a
  get_first c n p ps j m e h q (inr b) =
      let r : flat ps ≡ [] = none_left c (n - c) ps (omega (arith, e.0)) e.1 in
      rw (r, append-nil) (ap (λ t. slice_get p t) q)

  get_later : (c n : ℕ) (p : List X) (ps : List (List X)) (i j m : ℕ) → IsEven c n (p ∷ ps) → m ≡ c * suc i + j → slice_get (flat ps) (m - c) ≡ slice_get (get_or ps i []) j → (n < c) ⊎ (c ≤ n) → slice_get (p ++ flat ps) m ≡ slice_get (get_or ps i []) j
  get_later c n p ps i j m e q ih (inl a) =
      let r : flat ps ≡ [] = none_left c (n - c) ps (omega arith) e.1 in
      let s : get_or ps i [] ≡ [] = none_at c (n - c) ps i (omega arith) e.1 in
      rw (r, s, append-nil) (slice_get_past p m (omega (arith, e.0)))
  get_later c n p ps i j m e q ih (inr b) = at_right p (flat ps) m (m - c) (omega (arith, e.0)) ∙ ih

  -- the item at a place
  pub get_in : (c n : ℕ) (ps : List (List X)) (i j m : ℕ) → IsEven c n ps → j < c → m ≡ c * i + j → slice_get (flat ps) m ≡ slice_get (get_or ps i []) j
  get_in c n [] i j m e h q = refl
  get_in c n (p ∷ ps) zero j m e h q = get_first c n p ps j m e h (omega arith) (cases_lt j (length p))
  get_in c n (p ∷ ps) (suc i) j m e h q = get_later c n p ps i j m e q (get_in c (n - c) ps i j (m - c) e.1 h (omega arith)) (cases_lt n c)

  -- an item that is there stands in its list
  pub is_within : (c n : ℕ) (ps : List (List X)) (i j m : ℕ) → IsEven c n ps → j < c → m ≡ c * i + j → m < n → j < length (get_or ps i [])
  is_within c n ps i j m e h q l = omega (arith, length_at c n ps i e)

  -- an item is put in the place of another
  pub set_in : (c n : ℕ) (ps : List (List X)) (i j m : ℕ) (v : X) → IsEven c n ps → j < c → m ≡ c * i + j → m < n → flat (set ps i (set (get_or ps i []) j v)) ≡ set (flat ps) m v
  set_in c n [] i j m v e h q l = refl
  set_in c n (p ∷ ps) zero j m v e h q l =
      let k : j ≡ m = omega arith in
      ap (λ t. set p t v ++ flat ps) k ∙ sym (set-append_left p (flat ps) m v (omega (arith, e.0)))
  set_in c n (p ∷ ps) (suc i) j m v e h q l =
      ap (λ t. p ++ t) (set_in c (n - c) ps i j (m - c) v e.1 h (omega arith) (omega arith)) ∙ sym (set-append_right p (flat ps) c m v (omega (arith, e.0)) (omega arith))

  pub even_set : (c n : ℕ) (ps : List (List X)) (i : ℕ) (x : List X) → IsEven c n ps → length x ≡ length (get_or ps i []) → IsEven c n (set ps i x)
  even_set c n [] i x e l = e
  even_set c n (p ∷ ps) zero x e l = (l ∙ e.0, e.1)
  even_set c n (p ∷ ps) (suc i) x e l = (e.0, even_set c (n - c) ps i x e.1 l)

  -- where an item is added, its list is there, or it is the next one
  pub end_within : (c n : ℕ) (ps : List (List X)) (i j : ℕ) → IsEven c n ps → 0 < c → n ≡ c * i + j → i ≤ length ps
  end_within c n [] zero j e h q = omega arith
  end_within c n [] (suc i) j e h q = absurd (omega (arith, e))
  end_within c n (p ∷ ps) zero j e h q = omega arith
  end_within c n (p ∷ ps) (suc i) j e h q = omega (arith, end_within c (n - c) ps i j e.1 h (omega arith))

  pub length_at_end : (c n : ℕ) (ps : List (List X)) (i j : ℕ) → IsEven c n ps → j < c → n ≡ c * i + j → length (get_or ps i []) ≡ j
  length_at_end c n ps i j e h q = omega (arith, length_at c n ps i e)

  -- an item is added at the end
  pub add_in : (c n : ℕ) (ps : List (List X)) (i j : ℕ) (v : X) → IsEven c n ps → j < c → n ≡ c * i + j → flat (added_at ps i v) ≡ flat ps ++ v ∷ []
  add_in c n [] i j v e h q = refl
  add_in c n (p ∷ ps) zero j v e h q =
      let r : flat ps ≡ [] = none_left c (n - c) ps (omega arith) e.1 in
      rw r (simp append-nil)
  add_in c n (p ∷ ps) (suc i) j v e h q =
      ap (λ t. p ++ t) (add_in c (n - c) ps i j v e.1 h (omega arith)) ∙ sym (append_assoc p (flat ps) (v ∷ []))

  pub even_add : (c n : ℕ) (ps : List (List X)) (i j : ℕ) (v : X) → IsEven c n ps → j < c → n ≡ c * i + j → IsEven c (n + 1) (added_at ps i v)
  even_add c n [] i j v e h q = (omega (arith, e), omega (arith, e))
  even_add c n (p ∷ ps) zero j v e h q =
      let k : n - c ≡ n + 1 - c = omega arith in
      (omega (arith, e.0, length_push p v), subst (λ (t : ℕ). IsEven c t ps) k e.1)
  even_add c n (p ∷ ps) (suc i) j v e h q =
      let k : (n - c) + 1 ≡ n + 1 - c = omega arith in
      (omega (arith, e.0), subst (λ (t : ℕ). IsEven c t (added_at ps i v)) k (even_add c (n - c) ps i j v e.1 h (omega arith)))

  no_items : (j : ℕ) → drop {A = X} j [] ≡ []
  no_items j = drop_all j [] (omega arith)

  none_taken : (j : ℕ) → take {A = X} j [] ≡ []
  none_taken j = take_all j [] (omega arith)

  drop_right : (xs ys : List X) (m k : ℕ) → m ≡ length xs + k → drop m (xs ++ ys) ≡ drop k ys
  drop_right [] ys m k q = let e : m ≡ k = omega arith in ap (λ t. drop t ys) e
  drop_right (x ∷ xs) ys zero k q = absurd (omega arith)
  drop_right (x ∷ xs) ys (suc m) k q = drop_right xs ys m k (omega arith)

  front_first : (c n : ℕ) (p : List X) (ps : List (List X)) (j m : ℕ) → IsEven c n (p ∷ ps) → j < c → m ≡ j → (n < c) ⊎ (c ≤ n) → drop j p ≡ take (c - j) (drop m (p ++ flat ps))
  front_first c n p ps j m e h q (inl a) =
      let r : flat ps ≡ [] = none_left c (n - c) ps (omega arith) e.1 in
      rw (r, append-nil, q) (sym (take_all (c - j) (drop j p) (omega (arith, e.0, length-drop j p))))
  front_first c n p ps j m e h q (inr b) =
      let d : drop m (p ++ flat ps) ≡ drop j p ++ flat ps = ap (λ t. drop t (p ++ flat ps)) q ∙ drop-append-le j p (flat ps) (omega (arith, e.0)) in
      sym (ap (λ t. take (c - j) t) d ∙ take_at (drop j p) (flat ps) (c - j) (omega (arith, e.0, length-drop j p)))

  front_later : (c n : ℕ) (p : List X) (ps : List (List X)) (i j m : ℕ) → IsEven c n (p ∷ ps) → m ≡ c * suc i + j → drop j (get_or ps i []) ≡ take (c - j) (drop (m - c) (flat ps)) → (n < c) ⊎ (c ≤ n) → drop j (get_or ps i []) ≡ take (c - j) (drop m (p ++ flat ps))
  front_later c n p ps i j m e q ih (inl a) =
      let r : flat ps ≡ [] = none_left c (n - c) ps (omega arith) e.1 in
      let s : get_or ps i [] ≡ [] = none_at c (n - c) ps i (omega arith) e.1 in
      let d : drop m p ≡ [] = drop_all m p (omega (arith, e.0)) in
      ap (λ t. drop j t) s ∙ no_items j ∙ sym (ap (λ t. take (c - j) (drop m (p ++ t))) r ∙ ap (λ t. take (c - j) (drop m t)) (append-nil p) ∙ ap (λ t. take (c - j) t) d ∙ none_taken (c - j))
  front_later c n p ps i j m e q ih (inr b) =
      ih ∙ ap (λ t. take (c - j) t) (sym (drop_right p (flat ps) m (m - c) (omega (arith, e.0))))

  -- what stands in a list from a place on is a front of all that stands from there on
  pub front_in : (c n : ℕ) (ps : List (List X)) (i j m : ℕ) → IsEven c n ps → j < c → m ≡ c * i + j → drop j (get_or ps i []) ≡ take (c - j) (drop m (flat ps))
  front_in c n [] i j m e h q =
      let a : drop {A = X} j [] ≡ [] = no_items j in
      let b : drop {A = X} m [] ≡ [] = no_items m in
      a ∙ sym (ap (λ t. take (c - j) t) b ∙ none_taken (c - j))
  front_in c n (p ∷ ps) zero j m e h q = front_first c n p ps j m e h (omega arith) (cases_lt n c)
  front_in c n (p ∷ ps) (suc i) j m e h q = front_later c n p ps i j m e q (front_in c (n - c) ps i j (m - c) e.1 h (omega arith)) (cases_lt n c)

  -- the last item stands at the end of its list
  pub last_length : (c n : ℕ) (ps : List (List X)) (i j m : ℕ) → IsEven c n ps → j < c → m ≡ c * i + j → n ≡ m + 1 → length (get_or ps i []) ≡ j + 1
  last_length c n ps i j m e h q l = omega (arith, length_at c n ps i e)

  take_right : (xs ys : List X) (m k : ℕ) → m ≡ length xs + k → take m (xs ++ ys) ≡ xs ++ take k ys
  take_right [] ys m k q = let e : m ≡ k = omega arith in ap (λ t. take t ys) e
  take_right (x ∷ xs) ys zero k q = absurd (omega arith)
  take_right (x ∷ xs) ys (suc m) k q = ap (λ t. x ∷ t) (take_right xs ys m k (omega arith))

  -- the last item is taken out
  pub pop_in : (c n : ℕ) (ps : List (List X)) (i j m : ℕ) → IsEven c n ps → j < c → m ≡ c * i + j → n ≡ m + 1 → flat (set ps i (take j (get_or ps i []))) ≡ take m (flat ps)
  pop_in c n [] i j m e h q l = absurd (omega (arith, e))
  pop_in c n (p ∷ ps) zero j m e h q l =
      let r : flat ps ≡ [] = none_left c (n - c) ps (omega arith) e.1 in
      let k : j ≡ m = omega arith in
      rw (r, append-nil, append-nil) (ap (λ t. take t p) k)
  pop_in c n (p ∷ ps) (suc i) j m e h q l =
      ap (λ t. p ++ t) (pop_in c (n - c) ps i j (m - c) e.1 h (omega arith) (omega arith)) ∙ sym (take_right p (flat ps) m (m - c) (omega (arith, e.0)))

  pub even_pop : (c n : ℕ) (ps : List (List X)) (i j m : ℕ) → IsEven c n ps → j < c → m ≡ c * i + j → n ≡ m + 1 → IsEven c m (set ps i (take j (get_or ps i [])))
  even_pop c n [] i j m e h q l = absurd (omega (arith, e))
  even_pop c n (p ∷ ps) zero j m e h q l =
      let k : n - c ≡ m - c = omega arith in
      (omega (arith, e.0, length-take j p), subst (λ (t : ℕ). IsEven c t ps) k e.1)
  even_pop c n (p ∷ ps) (suc i) j m e h q l = (omega (arith, e.0), even_pop c (n - c) ps i j (m - c) e.1 h (omega arith) (omega arith))

  -- ---- the same, where the lists are seen as one

  list_none : (ps : List (List X)) (i : ℕ) → slice_get ps i ≡ None → get_or ps i [] ≡ []
  list_none [] i h = refl
  list_none (p ∷ ps) zero h = absurd (cc)
  list_none (p ∷ ps) (suc i) h = list_none ps i h

  list_some : (ps : List (List X)) (i : ℕ) (p : List X) → slice_get ps i ≡ Some p → get_or ps i [] ≡ p
  list_some ps i p h = get_or_from_slice_get ps i p [] h

  -- the item at a place, where its list is not there, and where it is
  pub item_none : (c n : ℕ) (ps : List (List X)) (xs : List X) (i j m : ℕ) → IsEven c n ps → flat ps ≡ xs → j < c → m ≡ c * i + j → slice_get ps i ≡ None → slice_get xs m ≡ None
  item_none c n ps xs i j m e v h q g =
      ap (λ t. slice_get t m) (sym v) ∙ get_in c n ps i j m e h q ∙ ap (λ t. slice_get t j) (list_none ps i g) ∙ slice_get_past [] j (omega arith)

  pub item_some : (c n : ℕ) (ps : List (List X)) (xs : List X) (i j m : ℕ) (p : List X) → IsEven c n ps → flat ps ≡ xs → j < c → m ≡ c * i + j → slice_get ps i ≡ Some p → slice_get xs m ≡ slice_get p j
  item_some c n ps xs i j m p e v h q g =
      ap (λ t. slice_get t m) (sym v) ∙ get_in c n ps i j m e h q ∙ ap (λ t. slice_get t j) (list_some ps i p g)

  -- what stands in a list from a place on, where the list is not there, and where it is
  pub front_none : (c n : ℕ) (ps : List (List X)) (xs : List X) (i j m : ℕ) → IsEven c n ps → flat ps ≡ xs → j < c → m ≡ c * i + j → slice_get ps i ≡ None → drop m xs ≡ []
  front_none c n ps xs i j m e v h q g =
      let l : length (get_or ps i []) ≡ 0 = ap length (list_none ps i g) in
      drop_all m xs (omega (arith, ap length v, length_is c n ps e, length_at c n ps i e, l))

  pub front_some : (c n : ℕ) (ps : List (List X)) (xs : List X) (i j m : ℕ) (p : List X) → IsEven c n ps → flat ps ≡ xs → j < c → m ≡ c * i + j → slice_get ps i ≡ Some p → drop j p ≡ take (c - j) (drop m xs)
  front_some c n ps xs i j m p e v h q g =
      ap (λ t. drop j t) (sym (list_some ps i p g)) ∙ front_in c n ps i j m e h q ∙ ap (λ t. take (c - j) (drop m t)) v

  -- a front of what stands in a list from a place on
  pub front_of : (c n : ℕ) (ps : List (List X)) (xs : List X) (i j m : ℕ) (p r : List X) (k : ℕ) → IsEven c n ps → flat ps ≡ xs → j < c → m ≡ c * i + j → slice_get ps i ≡ Some p → k ≤ c - j → r ≡ take k (drop j p) → r ≡ take k (drop m xs)
  front_of c n ps xs i j m p r k e v h q g l s =
      s ∙ ap (λ t. take k t) (front_some c n ps xs i j m p e v h q g) ∙ take-take k (c - j) (drop m xs) l

  -- an item is put in the place of another
  pub place_within : (c n : ℕ) (ps : List (List X)) (xs : List X) (i j m : ℕ) → IsEven c n ps → flat ps ≡ xs → j < c → m ≡ c * i + j → m < length xs → j < length (get_or ps i [])
  place_within c n ps xs i j m e v h q l = is_within c n ps i j m e h q (omega (arith, ap length v, length_is c n ps e))

  pub replaced : (c n : ℕ) (ps qs : List (List X)) (xs : List X) (i j m : ℕ) (x : X) → IsEven c n ps → flat ps ≡ xs → j < c → m ≡ c * i + j → m < length xs → qs ≡ set ps i (set (get_or ps i []) j x) → flat qs ≡ set xs m x
  replaced c n ps qs xs i j m x e v h q l s =
      ap flat s ∙ set_in c n ps i j m x e h q (omega (arith, ap length v, length_is c n ps e)) ∙ ap (λ t. set t m x) v

  pub even_replaced : (c n : ℕ) (ps qs : List (List X)) (i j : ℕ) (x : X) → IsEven c n ps → qs ≡ set ps i (set (get_or ps i []) j x) → IsEven c n qs
  even_replaced c n ps qs i j x e s =
      subst (λ (t : List (List X)). IsEven c n t) (sym s) (even_set c n ps i _ e (length-set (get_or ps i []) j x))

  pub was_there : (c n : ℕ) (ps : List (List X)) (xs : List X) (i j m : ℕ) (x : X) → IsEven c n ps → flat ps ≡ xs → j < c → m ≡ c * i + j → slice_get (get_or ps i []) j ≡ Some x → slice_get xs m ≡ Some x
  was_there c n ps xs i j m x e v h q s = ap (λ t. slice_get t m) (sym v) ∙ get_in c n ps i j m e h q ∙ s

  -- an item is added at the end
  pub added : (c n : ℕ) (ps qs : List (List X)) (xs : List X) (i j : ℕ) (x : X) → IsEven c n ps → flat ps ≡ xs → j < c → n ≡ c * i + j → qs ≡ added_at ps i x → flat qs ≡ xs ++ x ∷ []
  added c n ps qs xs i j x e v h q s = ap flat s ∙ add_in c n ps i j x e h q ∙ ap (λ t. t ++ x ∷ []) v

  pub even_added : (c n : ℕ) (ps qs : List (List X)) (i j : ℕ) (x : X) → IsEven c n ps → j < c → n ≡ c * i + j → qs ≡ added_at ps i x → IsEven c (n + 1) qs
  even_added c n ps qs i j x e h q s = subst (λ (t : List (List X)). IsEven c (n + 1) t) (sym s) (even_add c n ps i j x e h q)

  pub added_there : (ps : List (List X)) (i : ℕ) (x : X) → i < length ps → set ps i (get_or ps i [] ++ x ∷ []) ≡ added_at ps i x
  added_there [] i x h = absurd (omega arith)
  added_there (p ∷ ps) zero x h = refl
  added_there (p ∷ ps) (suc i) x h = ap (λ t. p ∷ t) (added_there ps i x (omega arith))

  pub added_last : (ps : List (List X)) (i : ℕ) (x : X) → length ps ≤ i → ps ++ (x ∷ []) ∷ [] ≡ added_at ps i x
  added_last [] i x h = refl
  added_last (p ∷ ps) zero x h = absurd (omega arith)
  added_last (p ∷ ps) (suc i) x h = ap (λ t. p ∷ t) (added_last ps i x (omega arith))

  -- the last item is taken out
  last_end : (c n : ℕ) (ps : List (List X)) (i j m : ℕ) → IsEven c n ps → j < c → m ≡ c * i + j → n ≡ m + 1 → length (get_or ps i []) - 1 ≡ j
  last_end c n ps i j m e h q l = omega (arith, last_length c n ps i j m e h q l)

  pub last_there : (c n : ℕ) (ps : List (List X)) (i j m : ℕ) → IsEven c n ps → j < c → m ≡ c * i + j → n ≡ m + 1 → 0 < length (get_or ps i [])
  last_there c n ps i j m e h q l = omega (arith, last_length c n ps i j m e h q l)

  pub popped : (c n : ℕ) (ps qs : List (List X)) (xs : List X) (i j m : ℕ) → IsEven c n ps → flat ps ≡ xs → j < c → m ≡ c * i + j → n ≡ m + 1 → qs ≡ set ps i (take (length (get_or ps i []) - 1) (get_or ps i [])) → flat qs ≡ take (length xs - 1) xs
  popped c n ps qs xs i j m e v h q l s =
      let k : m ≡ length xs - 1 = omega (arith, ap length v, length_is c n ps e) in
      ap flat s ∙ ap (λ t. flat (set ps i (take t (get_or ps i [])))) (last_end c n ps i j m e h q l)
      ∙ pop_in c n ps i j m e h q l ∙ ap (λ t. take m t) v ∙ ap (λ t. take t xs) k

  pub even_popped : (c n : ℕ) (ps qs : List (List X)) (i j m : ℕ) → IsEven c n ps → j < c → m ≡ c * i + j → n ≡ m + 1 → qs ≡ set ps i (take (length (get_or ps i []) - 1) (get_or ps i [])) → IsEven c m qs
  even_popped c n ps qs i j m e h q l s =
      subst (λ (t : List (List X)). IsEven c m t) (sym (s ∙ ap (λ t. set ps i (take t (get_or ps i []))) (last_end c n ps i j m e h q l))) (even_pop c n ps i j m e h q l)

  pub was_last : (c n : ℕ) (ps : List (List X)) (xs : List X) (i j m : ℕ) (x : X) → IsEven c n ps → flat ps ≡ xs → j < c → m ≡ c * i + j → n ≡ m + 1 → slice_get (get_or ps i []) (length (get_or ps i []) - 1) ≡ Some x → slice_get xs (length xs - 1) ≡ Some x
  was_last c n ps xs i j m x e v h q l s =
      let k : length xs - 1 ≡ m = omega (arith, ap length v, length_is c n ps e) in
      ap (λ t. slice_get xs t) k ∙ was_there c n ps xs i j m x e v h q (ap (λ t. slice_get (get_or ps i []) t) (sym (last_end c n ps i j m e h q l)) ∙ s)

  -- a list that is there
  pub list_any : (ps : List (List X)) (i : ℕ) (d : List X) → d ≡ get_or ps i d → i < length ps → d ≡ get_or ps i []
  list_any [] i d e h = absurd (omega arith)
  list_any (p ∷ ps) zero d e h = e
  list_any (p ∷ ps) (suc i) d e h = list_any ps i d e (omega arith)

pub on_ok : {T E : Type 0} (r : Result T E) {P Q : Type 0} → OnOk r P → (P → Q) → OnOk r Q
on_ok (Ok x) p f = f p
on_ok (Err e) p f = tt
