-- The fields of a head.
use Rattle.std.proofs.Common.{◌≡◌, ℕ, zero, suc, ◌+◌, ◌-◌, ◌*◌, ◌<◌, ◌≤◌, min, Bool, true, false, not, ◌&&◌, ◌||◌, ◌==◌, List, [], ◌∷◌, ◌++◌, length, take, drop, map, filter, get_or, refl, sym, ap, ap₂, subst, ◌∙◌, arith, append_assoc, append-nil, Some, None, if◌then◌else◌, codes, IsTrue, ◌↔◌}
use Rattle.std.specs.Prelude.{bytes_eq}
use Rattle.std.specs.List.{list_all, list_any}
use Rattle.std.specs.Char.{is_ascii_digit, digit_value, to_ascii_lowercase}
use Rattle.std.specs.Str.Parse.{digits_value}
use Rattle.std.proofs.lemmas.Bool.{and_parts}
use Rattle.std.proofs.lemmas.Bool.Decides.{nat_tests, same_from_decides}
use Rattle.std.proofs.lemmas.Slice.Eq.{bytes_eq-Decides}
use Rattle.std.proofs.lemmas.List.{take_all, drop_all, take_more, map-append}
use Rattle.std.proofs.lemmas.List.Folds.{list_all-append, list_all_more, list_any-append}
use Rattle.httparse.proofs.ChunkLemmas.{digits_value_after_push}
use Rattle.httparse.specs.Grammar.{is_ows, skip_ows}
use Rattle.httparse.specs.Spans.{header_bytes}
use Rattle.httparse.specs.declared.spans.HeaderSpan.{HeaderSpan}
use Rattle.http_session.proofs.Cuts.{all_of_cut, not_all_of_cut}
use Rattle.http_session.specs.Cuts.{StartsOutside, Cut, is_in_part}
use Rattle.http_session.specs.Fields.{NameValue, same_word, values_of, Found, no_value, equal_values, other_values, found_of, found_more, found_field, is_field_with, lists_close, fields_at, is_padded, is_word_then_blank, parts_of, onto_first, after_first, capped}

pub same_word_is : (r : Bool) (a b : List ℕ) → (IsTrue r ↔ (map to_ascii_lowercase a ≡ map to_ascii_lowercase b)) → r ≡ same_word a b
unfolding same_word
same_word_is r a b d = same_from_decides r _ d (bytes_eq-Decides _ _)

-- ---- one more field

one_if : Bool → List ℕ → List (List ℕ)
one_if t v = if t then v ∷ [] else []

values_cons : (name : List ℕ) (f : NameValue) (fields : List NameValue) → values_of name (f ∷ fields) ≡ one_if (same_word f.0 name) f.1 ++ values_of name fields
unfolding values_of one_if
values_cons name f fields = by (same_word f.0 name) (filter (λ (g : NameValue). same_word g.0 name) fields)
  where
    by : (t : Bool) (rest : List NameValue) → map (λ (g : NameValue). g.1) (if t then f ∷ rest else rest) ≡ (if t then f.1 ∷ [] else []) ++ map (λ (g : NameValue). g.1) rest
    by true rest = refl
    by false rest = refl

values_none : (name : List ℕ) → values_of name [] ≡ []
unfolding values_of
values_none name = refl

values_push : (name : List ℕ) (fields : List NameValue) (f : NameValue) → values_of name (fields ++ f ∷ []) ≡ values_of name fields ++ one_if (same_word f.0 name) f.1
values_push name [] f =
    values_cons name f [] ∙ ap (λ (vs : List (List ℕ)). one_if (same_word f.0 name) f.1 ++ vs) (values_none name) ∙ append-nil (one_if (same_word f.0 name) f.1)
    ∙ ap (λ (vs : List (List ℕ)). vs ++ one_if (same_word f.0 name) f.1) (sym (values_none name))
values_push name (g ∷ fields) f =
    values_cons name g (fields ++ f ∷ []) ∙ ap (λ (vs : List (List ℕ)). one_if (same_word g.0 name) g.1 ++ vs) (values_push name fields f)
    ∙ sym (append_assoc (one_if (same_word g.0 name) g.1) (values_of name fields) (one_if (same_word f.0 name) f.1))
    ∙ ap (λ (vs : List (List ℕ)). vs ++ one_if (same_word f.0 name) f.1) (sym (values_cons name g fields))

found_push : (vs : List (List ℕ)) (w : List ℕ) → found_of (vs ++ w ∷ []) ≡ found_more (found_of vs) w
found_push [] w = refl
found_push (v ∷ []) w = by (bytes_eq v w)
  where
    by : (t : Bool) → (if t && true then equal_values v else other_values) ≡ (if t then equal_values v else other_values)
    by true = refl
    by false = refl
found_push (v ∷ x ∷ vs) w = rw (list_all-append (bytes_eq v) vs (w ∷ [])) (by (bytes_eq v x) (list_all (bytes_eq v) vs) (bytes_eq v w) refl)
  where
    by : (t u s : Bool) → bytes_eq v w ≡ s → (if t && (u && (s && true)) then equal_values v else other_values) ≡ found_more (if t && u then equal_values v else other_values) w
    by true true true e = rw e refl
    by true true false e = rw e refl
    by true false true e = refl
    by true false false e = refl
    by false u s e = refl

pub found_next : (name bytes : List ℕ) (headers : List HeaderSpan) (i : ℕ) (d : HeaderSpan) → i < length headers
    → found_of (values_of name (fields_at bytes (take (i + 1) headers))) ≡ found_field name (found_of (values_of name (fields_at bytes (take i headers)))) (header_bytes bytes (get_or headers i d))
unfolding one_if
found_next name bytes headers i d lt =
    ap (λ hs. found_of (values_of name (fields_at bytes hs))) (take_more headers i d lt)
    ∙ ap (λ fs. found_of (values_of name fs)) (map-append (header_bytes bytes) (take i headers) (get_or headers i d ∷ []))
    ∙ ap found_of (values_push name (fields_at bytes (take i headers)) (header_bytes bytes (get_or headers i d)))
    ∙ by (same_word (header_bytes bytes (get_or headers i d)).0 name) (values_of name (fields_at bytes (take i headers))) (header_bytes bytes (get_or headers i d)).1
  where
    by : (t : Bool) (vs : List (List ℕ)) (v : List ℕ) → found_of (vs ++ (if t then v ∷ [] else [])) ≡ (if t then found_more (found_of vs) v else found_of vs)
    by true vs v = found_push vs v
    by false vs v = ap found_of (append-nil vs)

pub any_field : (name : List ℕ) (test : List ℕ → Bool) (fields : List NameValue) → list_any test (values_of name fields) ≡ list_any (is_field_with name test) fields
unfolding values_of
any_field name test [] = refl
any_field name test (f ∷ fields) = by (same_word f.0 name) (filter (λ (g : NameValue). same_word g.0 name) fields) (any_field name test fields)
  where
    by : (t : Bool) (rest : List NameValue) → list_any test (map (λ (g : NameValue). g.1) rest) ≡ list_any (is_field_with name test) fields
        → list_any test (map (λ (g : NameValue). g.1) (if t then f ∷ rest else rest)) ≡ ((t && test f.1) || list_any (is_field_with name test) fields)
    by true rest e = ap (λ r. test f.1 || r) e
    by false rest e = e

pub field_next : (p : NameValue → Bool) (bytes : List ℕ) (headers : List HeaderSpan) (i : ℕ) (d : HeaderSpan) → i < length headers
    → list_any p (fields_at bytes (take (i + 1) headers)) ≡ (list_any p (fields_at bytes (take i headers)) || p (header_bytes bytes (get_or headers i d)))
field_next p bytes headers i d lt =
    ap (λ hs. list_any p (fields_at bytes hs)) (take_more headers i d lt)
    ∙ ap (λ fs. list_any p fs) (map-append (header_bytes bytes) (take i headers) (get_or headers i d ∷ []))
    ∙ list_any-append p (fields_at bytes (take i headers)) (header_bytes bytes (get_or headers i d) ∷ [])
    ∙ by (list_any p (fields_at bytes (take i headers))) (p (header_bytes bytes (get_or headers i d)))
  where
    by : (t u : Bool) → (t || (u || false)) ≡ (t || u)
    by true u = refl
    by false true = refl
    by false false = refl

-- ---- the parts of a list

parts_front : (front tail q : List ℕ) (ps : List (List ℕ)) → list_all is_in_part front ≡ true → parts_of tail ≡ q ∷ ps → parts_of (front ++ tail) ≡ (front ++ q) ∷ ps
unfolding parts_of
parts_front [] tail q ps all e = e
parts_front (b ∷ front) tail q ps all e =
    let parts = and_parts (is_in_part b) (list_all is_in_part front) all in
    by (b == 44) parts.0 (parts_front front tail q ps parts.1 e)
  where
    by : (t : Bool) → not t ≡ true → parts_of (front ++ tail) ≡ (front ++ q) ∷ ps
        → (if t then [] ∷ parts_of (front ++ tail) else onto_first b (parts_of (front ++ tail))) ≡ (b ∷ front ++ q) ∷ ps
    by true is e = absurd cc
    by false is e = ap (onto_first b) e

empty_parts : parts_of [] ≡ [] ∷ []
unfolding parts_of
empty_parts = refl

comma_parts : (b : ℕ) (tail : List ℕ) → is_in_part b ≡ false → parts_of (b ∷ tail) ≡ [] ∷ parts_of tail
unfolding parts_of
comma_parts b tail is = by (b == 44) is
  where
    by : (t : Bool) → not t ≡ false → (if t then [] ∷ parts_of tail else onto_first b (parts_of tail)) ≡ [] ∷ parts_of tail
    by true e = refl
    by false e = absurd cc

pub last_part : (bytes part tail : List ℕ) → Cut is_in_part bytes part tail → None ≡ after_first tail → parts_of bytes ≡ part ∷ []
last_part bytes part [] cut none = ap parts_of cut.whole ∙ parts_front part [] [] [] cut.run empty_parts ∙ ap (λ p. p ∷ []) (append-nil part)
last_part bytes part (b ∷ tail) cut none = absurd cc

pub next_part : (bytes part tail more : List ℕ) → Cut is_in_part bytes part tail → Some more ≡ after_first tail → parts_of bytes ≡ part ∷ parts_of more
next_part bytes part [] more cut some = absurd cc
next_part bytes part (b ∷ tail) more cut some =
    let same : tail ≡ more = cc in
    ap parts_of cut.whole ∙ parts_front part (b ∷ tail) [] (parts_of more) cut.run (comma_parts b tail cut.stop ∙ ap (λ t. [] ∷ parts_of t) same) ∙ ap (λ p. p ∷ parts_of more) (append-nil part)

-- ---- blanks

skip_front : (front rest : List ℕ) → list_all is_ows front ≡ true → StartsOutside is_ows rest → skip_ows (front ++ rest) ≡ rest
skip_front [] [] all stop = refl
skip_front [] (b ∷ rest) all stop = rw stop refl
skip_front (b ∷ front) rest all stop =
    let parts = and_parts (is_ows b) (list_all is_ows front) all in
    rw parts.0 (skip_front front rest parts.1 stop)

pub skip_cut : (bytes front rest : List ℕ) → Cut is_ows bytes front rest → skip_ows bytes ≡ rest
skip_cut bytes front rest cut = ap skip_ows cut.whole ∙ skip_front front rest cut.run cut.stop

pub empty_is_all : (p : ℕ → Bool) (bytes front rest : List ℕ) → Cut p bytes front rest → (length rest == 0) ≡ list_all p bytes
empty_is_all p bytes front [] cut = sym (all_of_cut p bytes front [] cut refl)
empty_is_all p bytes front (b ∷ rest) cut = long ∙ sym (not_all_of_cut p bytes front (b ∷ rest) cut (λ e. absurd cc))
  where
    long : (length (b ∷ rest) == 0) ≡ false
    long = grind (arith, nat_tests)

pub take_short : (xs : List ℕ) (n : ℕ) → take (min (length xs) n) xs ≡ take n xs
take_short xs n = grind (arith, take_all)

pub drop_short : (xs : List ℕ) (n : ℕ) → drop (min (length xs) n) xs ≡ drop n xs
drop_short xs n = grind (arith, drop_all)

-- ---- digits

pub capped_more : (n d : ℕ) → capped (capped n * 10 + d) ≡ capped (n * 10 + d)
capped_more n d = grind arith

pub digits_next : (xs : List ℕ) (i d : ℕ) → i < length xs → digits_value 10 (take (i + 1) xs) ≡ digits_value 10 (take i xs) * 10 + digit_value (get_or xs i d)
digits_next xs i d lt = ap (digits_value 10) (take_more xs i d lt) ∙ digits_value_after_push 10 0 (take i xs) (get_or xs i d)

pub digit_is : (b : ℕ) → is_ascii_digit b ≡ true → digit_value b ≡ b - 48
digit_is b is = grind (arith, nat_tests)

pub digits_more : (xs : List ℕ) (i d number next : ℕ) → i < length xs → list_all is_ascii_digit (take i xs) ≡ true → number ≡ capped (digits_value 10 (take i xs)) → is_ascii_digit (get_or xs i d) ≡ true
    → next ≡ capped (number * 10 + (get_or xs i d - 48)) → (list_all is_ascii_digit (take (i + 1) xs) ≡ true) × (next ≡ capped (digits_value 10 (take (i + 1) xs)))
digits_more xs i d number next lt all is digit e = (
  rw (list_all_more is_ascii_digit xs i d lt, all, digit) refl,
  e ∙ ap (λ (n : ℕ). capped (n * 10 + (get_or xs i d - 48))) is ∙ capped_more (digits_value 10 (take i xs)) (get_or xs i d - 48) ∙ ap capped (ap (λ (m : ℕ). digits_value 10 (take i xs) * 10 + m) (sym (digit_is (get_or xs i d) digit)) ∙ sym (digits_next xs i d lt)),
)

pub padded_is : (word bytes blank rest front back blank' more : List ℕ) (m : ℕ) → Cut is_ows bytes blank rest → m ≡ min (length rest) (length word) → front ≡ take m rest → back ≡ drop m rest
    → Cut is_ows back blank' more → is_padded word bytes ≡ (same_word front word && (length more == 0))
unfolding is_padded
padded_is word bytes blank rest front back blank' more m first is e k second =
    ap (is_word_then_blank word) (skip_cut bytes blank rest first)
    ∙ ap₂ (λ (f b : List ℕ). same_word f word && list_all is_ows b) (sym (e ∙ ap (λ n. take n rest) is ∙ take_short rest (length word))) (sym (k ∙ ap (λ n. drop n rest) is ∙ drop_short rest (length word)))
    ∙ ap (λ t. same_word front word && t) (sym (empty_is_all is_ows back blank' more second))

pub padded_yes : (t u : Bool) (r : Bool) → r ≡ (t && u) → true ≡ t → u ≡ r
padded_yes true u r e is = sym e
padded_yes false u r e is = absurd cc

pub padded_no : (t u : Bool) (r : Bool) → r ≡ (t && u) → false ≡ t → false ≡ r
padded_no true u r e is = absurd cc
padded_no false u r e is = sym e

any_map_at : {X Y : Type 0} (p : Y → Bool) (f : X → Y) (xs : List X) (i : ℕ) (d : X) → i < length xs → p (f (get_or xs i d)) ≡ true → list_any p (map f xs) ≡ true
any_map_at p f [] i d lt e = absurd (omega arith)
any_map_at p f (x ∷ xs) zero d lt e = rw e refl
any_map_at p f (x ∷ xs) (suc i) d lt e = by (p (f x)) (any_map_at p f xs i d (omega arith) e)
  where
    by : (t : Bool) → list_any p (map f xs) ≡ true → (t || list_any p (map f xs)) ≡ true
    by true h = refl
    by false h = h

pub field_found : (name : List ℕ) (test : List ℕ → Bool) (bytes : List ℕ) (headers : List HeaderSpan) (i : ℕ) (d : HeaderSpan) → i < length headers
    → true ≡ is_field_with name test (header_bytes bytes (get_or headers i d)) → true ≡ list_any test (values_of name (fields_at bytes headers))
field_found name test bytes headers i d lt e =
    sym (any_field name test (fields_at bytes headers) ∙ any_map_at (is_field_with name test) (header_bytes bytes) headers i d lt (sym e))

pub field_nowhere : (name : List ℕ) (test : List ℕ → Bool) (bytes : List ℕ) (headers : List HeaderSpan) (i : ℕ) → length headers ≤ i
    → list_any (is_field_with name test) (fields_at bytes (take i headers)) ≡ false → false ≡ list_any test (values_of name (fields_at bytes headers))
field_nowhere name test bytes headers i le e =
    sym (any_field name test (fields_at bytes headers) ∙ subst (λ hs. list_any (is_field_with name test) (fields_at bytes hs) ≡ false) (take_all i headers le) e)

first_part : (bytes part tail : List ℕ) → Cut is_in_part bytes part tail → (ps : List (List ℕ)) × (parts_of bytes ≡ part ∷ ps)
first_part bytes part [] cut = ([], last_part bytes part [] cut refl)
first_part bytes part (b ∷ tail) cut = (parts_of tail, next_part bytes part (b ∷ tail) tail cut refl)

pub close_here : (value bytes part tail : List ℕ) → Cut is_in_part bytes part tail → list_any (is_padded (codes "close")) (parts_of value) ≡ list_any (is_padded (codes "close")) (parts_of bytes)
    → true ≡ is_padded (codes "close") part → true ≡ lists_close value
unfolding lists_close
close_here value bytes part tail cut inv is = let f = first_part bytes part tail cut in sym (inv ∙ ap (list_any (is_padded (codes "close"))) f.1 ∙ ap (λ t. t || list_any (is_padded (codes "close")) f.0) (sym is))

pub close_not : (value bytes part tail : List ℕ) → Cut is_in_part bytes part tail → None ≡ after_first tail → list_any (is_padded (codes "close")) (parts_of value) ≡ list_any (is_padded (codes "close")) (parts_of bytes)
    → false ≡ is_padded (codes "close") part → false ≡ lists_close value
unfolding lists_close
close_not value bytes part tail cut none inv no' = sym (inv ∙ ap (list_any (is_padded (codes "close"))) (last_part bytes part tail cut none) ∙ ap (λ t. t || false) (sym no'))

pub close_later : (value bytes part tail more : List ℕ) → Cut is_in_part bytes part tail → Some more ≡ after_first tail → list_any (is_padded (codes "close")) (parts_of value) ≡ list_any (is_padded (codes "close")) (parts_of bytes)
    → false ≡ is_padded (codes "close") part → list_any (is_padded (codes "close")) (parts_of value) ≡ list_any (is_padded (codes "close")) (parts_of more)
close_later value bytes part tail more cut some inv no' = inv ∙ ap (list_any (is_padded (codes "close"))) (next_part bytes part tail more cut some) ∙ ap (λ t. t || list_any (is_padded (codes "close")) (parts_of more)) (sym no')

pub nothing_found : (name : List ℕ) → no_value ≡ found_of (values_of name [])
nothing_found name = ap found_of (sym (values_none name))

abbrev pub no_header : HeaderSpan
no_header = record { name = record { start = 0; end = 0 }; value = record { start = 0; end = 0 } }

pub found_goes_on : (name bytes : List ℕ) (headers : List HeaderSpan) (i : ℕ) (d : HeaderSpan) (old new : Found) → i < length headers → old ≡ found_of (values_of name (fields_at bytes (take i headers)))
    → new ≡ found_field name old (header_bytes bytes (get_or headers i d)) → new ≡ found_of (values_of name (fields_at bytes (take (i + 1) headers)))
found_goes_on name bytes headers i d old new lt inv step = step ∙ ap (λ s. found_field name s (header_bytes bytes (get_or headers i d))) inv ∙ sym (found_next name bytes headers i d lt)
