-- What comes twice in a list.
use Rattle.std.proofs.Common.{◌≡◌, ℕ, ◌<◌, ◌≤◌, ◌+◌, List, [], ◌∷◌, ◌++◌, Bool, true, false, not, ◌||◌, length, get_or, take, drop, map, refl, ap, ap₂, sym, subst, ◌∙◌, arith}
use Rattle.std.specs.List.{list_any}
use Rattle.std.specs.Str.{bytes_eq}
use Rattle.std.specs.Prelude.{◌&&◌}
use Rattle.std.specs.Borrow.{Bor}
use Rattle.std.specs.declared.cmp.Ordering.{Ordering}
use Rattle.std.specs.Ordering.{is_eq, nat_cmp, ordering_then}
use Rattle.std.specs.Cmp.{IsTotalOrder, eq_by_cmp_equiv, on_total, then_total, both_tied}
use Rattle.std.specs.Cmp.Lexicographic.{slice_cmp, nat_list_cmp_total, nat_list_eq_equiv, texts_ties, bytes_decides}
use Rattle.std.specs.BTreeSet.{BTreeSet, contains_by, UpdatesBy}
use Rattle.std.specs.Set.{KeepsOthers}
use Rattle.std.proofs.lemmas.List.{at_drop_more, at_drop_all, take_more, take-append-drop, append-nil, get_or-map, length-map}
use Rattle.doc_tree.specs.declared.tree.Attribute.{Attribute}
use Rattle.doc_read.specs.declared.tag.RawAttribute.{RawAttribute}
use Rattle.doc_read.specs.Lex.{raw_of}
use Rattle.doc_read.specs.Scope.{has_twins, same_pair, texts, written, spellings, expanded, expanded_names}

pub few_spellings : (rs : List RawAttribute) → length rs < 2 → has_twins same_pair (spellings (map raw_of rs)) ≡ false
unfolding has_twins
few_spellings [] few = refl
few_spellings (r ∷ []) few = refl
few_spellings (r ∷ s ∷ rs) few = absurd (omega arith)

pub few_names : (xs : List Attribute) → length xs < 2 → has_twins same_pair (expanded_names xs) ≡ false
unfolding has_twins
few_names [] few = refl
few_names (x ∷ []) few = refl
few_names (x ∷ y ∷ xs) few = absurd (omega arith)

pub spellings_turn : (rs : List RawAttribute) (i : ℕ) (r : RawAttribute) → i < length rs → r ≡ get_or rs i r → spellings (map raw_of (drop i rs)) ≡ written (raw_of r).name ∷ spellings (map raw_of (drop (i + 1) rs))
spellings_turn rs i r lt is = at_drop_more (λ ys. spellings (map raw_of ys)) rs i r lt ∙ ap (λ x. written (raw_of x).name ∷ spellings (map raw_of (drop (i + 1) rs))) (sym is)

pub spellings_end : (found : List (List ℕ × List ℕ)) (rs : List RawAttribute) (i : ℕ) → length rs ≤ i → found ++ spellings (map raw_of (drop i rs)) ≡ found
spellings_end found rs i le = ap (λ ys. found ++ ys) (at_drop_all (λ ys. spellings (map raw_of ys)) rs i le) ∙ append-nil found

pub expanded_turn : (xs : List Attribute) (i : ℕ) (x : Attribute) → i < length xs → x ≡ get_or xs i x → expanded_names (drop i xs) ≡ expanded x.name ∷ expanded_names (drop (i + 1) xs)
expanded_turn xs i x lt is = at_drop_more expanded_names xs i x lt ∙ ap (λ y. expanded y.name ∷ expanded_names (drop (i + 1) xs)) (sym is)

pub expanded_end : (found : List (List ℕ × List ℕ)) (xs : List Attribute) (i : ℕ) → length xs ≤ i → found ++ expanded_names (drop i xs) ≡ found
expanded_end found xs i le = ap (λ ys. found ++ ys) (at_drop_all expanded_names xs i le) ∙ append-nil found

-- ---- twins, by what came before

or_assoc : (a b c : Bool) → ((a || b) || c) ≡ (a || (b || c))
or_assoc true b c = refl
or_assoc false b c = refl

or_false : (a : Bool) → (a || false) ≡ a
or_false true = refl
or_false false = refl

shuffle : (a b c d : Bool) → ((a || b) || (c || d)) ≡ ((a || c) || (b || d))
shuffle true b c d = refl
shuffle false true true d = refl
shuffle false true false d = refl
shuffle false false c d = refl

any_push : {K : Type 0} (p : K → Bool) (xs : List K) (y : K) → list_any p (xs ++ y ∷ []) ≡ (list_any p xs || p y)
any_push p [] y = or_false (p y)
any_push p (z ∷ xs) y = ap (λ (b : Bool). p z || b) (any_push p xs y) ∙ sym (or_assoc (p z) (list_any p xs) (p y))

pub any_map : {J K : Type 0} (f : J → K) (p : K → Bool) (xs : List J) → list_any p (map f xs) ≡ list_any (λ x. p (f x)) xs
any_map f p [] = refl
any_map f p (x ∷ xs) = ap (λ (b : Bool). p (f x) || b) (any_map f p xs)

any_more : {K : Type 0} (p : K → Bool) (front back : List K) → list_any p front ≡ true → list_any p (front ++ back) ≡ true
any_more p [] back h = absurd cc
any_more p (y ∷ front) back h = go (p y) h (any_more p front back)
  where
    go : (b : Bool) → (b || list_any p front) ≡ true → (list_any p front ≡ true → list_any p (front ++ back) ≡ true) → (b || list_any p (front ++ back)) ≡ true
    go true h again = refl
    go false h again = again h

module _ {K : Type 0} (same : K → K → Bool) where
  -- whether x is among xs
  abbrev pub is_among : K → List K → Bool
  is_among x xs = list_any (λ y. same y x) xs

  twins_push : (xs : List K) (y : K) → has_twins same (xs ++ y ∷ []) ≡ (has_twins same xs || is_among y xs)
  unfolding has_twins
  twins_push [] y = refl
  twins_push (x ∷ xs) y =
      ap (λ (b : Bool). b || has_twins same (xs ++ y ∷ [])) (any_push (same x) xs y)
      ∙ ap (λ (b : Bool). (list_any (same x) xs || same x y) || b) (twins_push xs y)
      ∙ shuffle (list_any (same x) xs) (same x y) (has_twins same xs) (is_among y xs)

  twins_more : (front back : List K) → has_twins same front ≡ true → has_twins same (front ++ back) ≡ true
  unfolding has_twins
  twins_more [] back h = absurd cc
  twins_more (x ∷ front) back h = go (list_any (same x) front) (list_any (same x) (front ++ back)) h (any_more (same x) front back) (twins_more front back)
    where
      go : (a b : Bool) → (a || has_twins same front) ≡ true → (a ≡ true → b ≡ true) → (has_twins same front ≡ true → has_twins same (front ++ back) ≡ true) → (b || has_twins same (front ++ back)) ≡ true
      go true b h more again = rw (more refl) refl
      go false true h more again = refl
      go false false h more again = again h

  -- ---- one turn, with what was seen

  pub none_seen : has_twins same [] ≡ false
  unfolding has_twins
  none_seen = refl

  pub twins_found : (xs : List K) (i : ℕ) (x : K) → i < length xs → x ≡ get_or xs i x → is_among x (take i xs) ≡ true → true ≡ has_twins same xs
  twins_found xs i x lt is among =
      let front : take (i + 1) xs ≡ take i xs ++ x ∷ [] = take_more xs i x lt ∙ ap (λ (y : K). take i xs ++ y ∷ []) (sym is) in
      let here : has_twins same (take (i + 1) xs) ≡ true = ap (has_twins same) front ∙ twins_push (take i xs) x ∙ ap (λ (b : Bool). has_twins same (take i xs) || b) among ∙ or_true (has_twins same (take i xs)) in
      sym (ap (has_twins same) (sym (take-append-drop (i + 1) xs)) ∙ twins_more (take (i + 1) xs) (drop (i + 1) xs) here)
    where
      or_true : (b : Bool) → (b || true) ≡ true
      or_true true = refl
      or_true false = refl

  pub twins_pass : (xs : List K) (i : ℕ) (x : K) → i < length xs → x ≡ get_or xs i x → is_among x (take i xs) ≡ false → has_twins same (take i xs) ≡ false → has_twins same (take (i + 1) xs) ≡ false
  twins_pass xs i x lt is apart none =
      let front : take (i + 1) xs ≡ take i xs ++ x ∷ [] = take_more xs i x lt ∙ ap (λ (y : K). take i xs ++ y ∷ []) (sym is) in
      ap (has_twins same) front ∙ twins_push (take i xs) x ∙ rw (none, apart) refl

  pub among_turn : (xs : List K) (i : ℕ) (x q : K) → i < length xs → x ≡ get_or xs i x → is_among q (take (i + 1) xs) ≡ (is_among q (take i xs) || same x q)
  among_turn xs i x q lt is =
      let front : take (i + 1) xs ≡ take i xs ++ x ∷ [] = take_more xs i x lt ∙ ap (λ (y : K). take i xs ++ y ∷ []) (sym is) in
      ap (is_among q) front ∙ any_push (λ y. same y q) (take i xs) x

pub is_new : (added here : Bool) → added ≡ not here → added ≡ true → here ≡ false
is_new added true same set = absurd (clash (sym set ∙ same))
  where
    clash : true ≡ false → ⊥
    clash e = absurd cc
is_new added false same set = refl

pub is_old : (added here : Bool) → added ≡ not here → added ≡ false → here ≡ true
is_old added true same unset = refl
is_old added false same unset = absurd (clash (sym unset ∙ same))
  where
    clash : false ≡ true → ⊥
    clash e = absurd cc

-- ---- pairs of texts

pub pair_is : (p q : List ℕ × List ℕ) → same_pair p q ≡ true → p ≡ q
pair_is p q e = go (bytes_eq p.0 q.0) refl e
  where
    go : (b : Bool) → bytes_eq p.0 q.0 ≡ b → (b && bytes_eq p.1 q.1) ≡ true → p ≡ q
    go true first second = ap₂ (λ (x y : List ℕ). (x, y)) ((bytes_decides p.0 q.0).0 first) ((bytes_decides p.1 q.1).0 second)
    go false first second = absurd cc

pub pair_itself : (p : List ℕ × List ℕ) → same_pair p p ≡ true
pair_itself p = rw (nat_list_eq_equiv.refl p.0, nat_list_eq_equiv.refl p.1) refl

-- ---- pairs of texts in a set

-- how a set compares pairs: by the first texts, and then by the second
abbrev pub pair_cmp : List ℕ × List ℕ → List ℕ × List ℕ → Ordering
pair_cmp a b = ordering_then (slice_cmp nat_cmp a.0 b.0) (slice_cmp nat_cmp a.1 b.1)

pair_total : IsTotalOrder pair_cmp
pair_total = then_total (on_total (λ p. p.0) nat_list_cmp_total) (on_total (λ p. p.1) nat_list_cmp_total)

pair_ties : (a b : List ℕ × List ℕ) → same_pair a b ≡ is_eq (pair_cmp a b)
pair_ties a b = both_tied _ _ _ _ (texts_ties a.0 b.0) (texts_ties a.1 b.1)

-- whether the set has the pair
abbrev pub has_pair : BTreeSet (Bor (List ℕ) × Bor (List ℕ)) → List ℕ × List ℕ → Bool
has_pair set pair = contains_by (λ k. pair_cmp pair (texts k)) set

pub pair_insert : (p q : List ℕ × List ℕ) (s n : BTreeSet (Bor (List ℕ) × Bor (List ℕ))) → UpdatesBy (λ x y. pair_cmp (texts x) (texts y)) (λ k. pair_cmp p (texts k)) s n true → has_pair n q ≡ (has_pair s q || same_pair p q)
unfolding KeepsOthers
pair_insert p q s n h = go (same_pair p q) refl
  where
    or_true : (b : Bool) → true ≡ (b || true)
    or_true true = refl
    or_true false = refl

    apart : same_pair p q ≡ false → (k : Bor (List ℕ) × Bor (List ℕ)) → is_eq (pair_cmp p (texts k)) ≡ true → is_eq (pair_cmp q (texts k)) ≡ false
    apart e k y = (eq_by_cmp_equiv pair_total).symm q (texts k) ∙ sym ((eq_by_cmp_equiv pair_total).congr p (texts k) q y) ∙ sym (pair_ties p q) ∙ e

    keeps : (old new : List (Bor (List ℕ) × Bor (List ℕ))) → KeepsOthers (λ x y. is_eq (pair_cmp (texts x) (texts y))) (λ k. is_eq (pair_cmp p (texts k))) old new → same_pair p q ≡ false → list_any (λ k. is_eq (pair_cmp q (texts k))) new ≡ list_any (λ k. is_eq (pair_cmp q (texts k))) old
    keeps old new h e = h _ (λ x y. (eq_by_cmp_equiv pair_total).congr q (texts x) (texts y)) (apart e)

    go : (b : Bool) → same_pair p q ≡ b → has_pair n q ≡ (has_pair s q || b)
    go true e = subst (λ (r : List ℕ × List ℕ). has_pair n r ≡ true) (pair_is p q e) h.1 ∙ or_true (has_pair s q)
    go false e = keeps s.keys n.keys h.3 e ∙ sym (or_false (has_pair s q))

-- the pair at a place of a list, by its texts
pub pair_at : (ps : List (Bor (List ℕ) × Bor (List ℕ))) (i : ℕ) (d : Bor (List ℕ) × Bor (List ℕ)) → i < length ps → texts (get_or ps i d) ≡ get_or (map texts ps) i (texts (get_or ps i d))
pair_at ps i d lt = sym (get_or-map texts ps i d (texts (get_or ps i d)) lt)

pub pair_within : (ps : List (Bor (List ℕ) × Bor (List ℕ))) (i : ℕ) → i < length ps → i < length (map texts ps)
pair_within ps i lt = subst (λ (n : ℕ). i < n) (sym (length-map ps texts)) lt
