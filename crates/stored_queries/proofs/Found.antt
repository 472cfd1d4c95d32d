-- Whether a text is among others, found by halving a sorted copy.
use Rattle.std.proofs.Common.{◌≡◌, ℕ, ◌<◌, ◌≤◌, Bool, true, false, ◌&&◌, ◌||◌, ltb, List, [], ◌∷◌, length, get_or, map, Result, Ok, Err, is_ok, IsPermutation, refl, sym, ap, ◌∙◌, arith, ltb-true, ltb-false}
use Rattle.std.specs.List.{list_any}
use Rattle.std.specs.List.Sorted.{IsSorted, IsBinarySearchResult, IsSearchInRange}
use Rattle.std.specs.Ordering.{nat_cmp, is_eq}
use Rattle.std.specs.Cmp.Lexicographic.{slice_cmp}
use Rattle.std.specs.Str.{bytes_eq}
use Rattle.std.proofs.lemmas.Cmp.{nat_list_cmp_total}
use Rattle.std.proofs.lemmas.Map.Text.{is_eq-slice_cmp}
use Rattle.std.proofs.lemmas.Slice.Eq.{bytes_eq-Decides}
use Rattle.std.proofs.lemmas.List.Folds.{list_any_at, list_any_none}
use Rattle.std.proofs.lemmas.List.Sorted.{searchable_from_sorted, list_any-IsPermutation}
use Rattle.wfs_model.specs.declared.stored.StoredQuery.{StoredQuery}
use Rattle.wfs_model.specs.Stored.{is_id_query, is_there, is_known, built_in}
use Rattle.wfs_model.specs.Read.{is_called, is_listed}

half_at : {P : Type 0} (k i : ℕ) (b : Bool) → ltb k i ≡ b → (k < i → P) → (i ≤ k → P) → P
half_at k i true is below above = below (ltb-true k i is)
half_at k i false is below above = above (ltb-false k i is)

by_half : {P : Type 0} (k i : ℕ) → (k < i → P) → (i ≤ k → P) → P
by_half k i below above = half_at k i (ltb k i) refl below above

abbrev pub is_text : List ℕ → List ℕ → Bool
is_text text other = bytes_eq other text

same_is : (text other : List ℕ) → is_text text other ≡ is_eq (slice_cmp nat_cmp other text)
same_is text other = sym (is_eq-slice_cmp other text)

pub search_tells : (sorted : List (List ℕ)) (text : List ℕ) (r : Result ℕ ℕ) → IsSorted (slice_cmp nat_cmp) sorted → IsSearchInRange r (length sorted) → IsBinarySearchResult (λ y. slice_cmp nat_cmp y text) sorted r → is_ok r ≡ list_any (is_text text) sorted
search_tells sorted text (Ok i) up bound h = sym (list_any_at (is_text text) sorted i text bound (same_is text (get_or sorted i text) ∙ ap is_eq (h text)))
search_tells sorted text (Err i) up bound h =
    let part = h (searchable_from_sorted nat_list_cmp_total (λ x. x) sorted text up) in
    sym (list_any_none (is_text text) sorted (λ k d lt. same_is text (get_or sorted k d) ∙
    by_half k i (λ below. ap is_eq (part.0 k d (omega arith) below)) (λ above. ap is_eq (part.1 k d above lt))))

pub among_moved : (text : List ℕ) (texts sorted : List (List ℕ)) → IsPermutation texts sorted → list_any (is_text text) sorted ≡ list_any (is_text text) texts
among_moved text texts sorted moved = sym (list_any-IsPermutation (is_text text) texts sorted moved)

-- ---- identifiers of stored queries

any_id : (stored : List StoredQuery) (id : List ℕ) → list_any (is_text id) (map (λ q. q.id) stored) ≡ is_there stored id
any_id [] id = refl
any_id (q ∷ qs) id = ap (λ b. bytes_eq q.id id || b) (any_id qs id)

known_by : (stored : List StoredQuery) (sorted : List (List ℕ)) (id : List ℕ) → IsPermutation (map (λ q. q.id) stored) sorted → (is_id_query id || list_any (is_text id) sorted) ≡ is_known stored id
known_by stored sorted id moved = ap (λ b. is_id_query id || b) (among_moved id (map (λ q. q.id) stored) sorted moved ∙ any_id stored id)

pub known_other : (stored : List StoredQuery) (sorted : List (List ℕ)) (id : List ℕ) → IsPermutation (map (λ q. q.id) stored) sorted → is_id_query id ≡ false → list_any (is_text id) sorted ≡ is_known stored id
known_other stored sorted id moved other = ap (λ b. b || list_any (is_text id) sorted) (sym other) ∙ known_by stored sorted id moved

-- ---- stored queries by some identifiers

together : (a b c d e : Bool) → ((a || (b && c)) || (d || (b && e))) ≡ ((a || d) || (b && (c || e)))
together true b c d e = refl
together false true true true e = refl
together false true true false e = refl
together false true false true e = refl
together false true false false e = refl
together false false c d e = refl

same_at : (a b : List ℕ) (x y : Bool) → bytes_eq a b ≡ x → bytes_eq b a ≡ y → x ≡ y
same_at a b true true ab ba = refl
same_at a b false false ab ba = refl
same_at a b true false ab ba = absurd (grind (arith, ab, ba, bytes_eq-Decides))
same_at a b false true ab ba = absurd (grind (arith, ab, ba, bytes_eq-Decides))

same_texts : (a b : List ℕ) → bytes_eq a b ≡ bytes_eq b a
same_texts a b = same_at a b (bytes_eq a b) (bytes_eq b a) refl refl

and_false : (b : Bool) → false ≡ (b && false)
and_false true = refl
and_false false = refl

listed_of : (ids : List (List ℕ)) (query : StoredQuery) → is_listed ids query ≡ (list_any (is_text query.id) ids || (bytes_eq query.id built_in.id && list_any is_id_query ids))
listed_of [] query = and_false (bytes_eq query.id built_in.id)
listed_of (id ∷ ids) query =
    ap (λ b. is_called query id || b) (listed_of ids query)
    ∙ together (bytes_eq query.id id) (bytes_eq query.id built_in.id) (is_id_query id) (list_any (is_text query.id) ids) (list_any is_id_query ids)
    ∙ ap (λ b. (b || list_any (is_text query.id) ids) || (bytes_eq query.id built_in.id && (is_id_query id || list_any is_id_query ids))) (same_texts query.id id)

pub listed_by : (ids sorted : List (List ℕ)) (query : StoredQuery) → IsPermutation ids sorted → (list_any (is_text query.id) sorted || (bytes_eq query.id built_in.id && list_any is_id_query ids)) ≡ is_listed ids query
listed_by ids sorted query moved = ap (λ b. b || (bytes_eq query.id built_in.id && list_any is_id_query ids)) (among_moved query.id ids sorted moved) ∙ sym (listed_of ids query)
