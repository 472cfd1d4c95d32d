-- The first byte that stops a class, where those are of ASCII, is its first character that does.
use Rattle.std.proofs.Common.{◌≡◌, ℕ, ◌+◌, ◌/◌, ◌%◌, ◌<◌, ◌≤◌, Bool, true, false, cond, ltb, inl, inr, List, [], ◌∷◌, ◌++◌, ◌||◌, ◌&&◌, not, length, get_or, take, drop, refl, sym, ap, ◌∙◌, arith}
use Rattle.std.specs.Prelude.{slice_index, ◌==◌}
use Rattle.std.specs.List.{list_all, list_any}
use Rattle.std.specs.Prelude.{encode_utf8_all}
use Rattle.std.specs.Char.{encode_utf8}
use Rattle.std.specs.Str.{IsUtf8, IsAscii, IsCharBoundary, chars}
use Rattle.std.proofs.lemmas.Str.{chars-append, chars-nil, chars-IsAscii, encode_ascii, encodes-chars, IsUtf8-take, IsUtf8-drop, IsUtf8-from_ascii, IsCharBoundary-before_ascii, IsCharBoundary-from_take}
use Rattle.std.proofs.lemmas.Str.Ascii.{IsAscii-nil, IsAscii-cons}
use Rattle.std.proofs.lemmas.Bool.Decides.{nat_tests}
use Rattle.std.proofs.lemmas.Bool.{cases_lt}
use Rattle.std.proofs.lemmas.Grind.{get_or_default_zero}
use Rattle.std.proofs.lemmas.List.{append-nil, take-append-drop, take_all, drop_all, drop_more, length-take, get_or-take}
use Rattle.std.proofs.lemmas.List.Folds.{list_any_none}
use Rattle.memchr.specs.Find.{Passes, Nowhere, is_byte2, is_byte3}
use Rattle.doc_read.specs.declared.lex.Class.TheVariants.{Text, Value, NamePart}
use Rattle.doc_read.specs.declared.lex.Class.{Class}
use Rattle.doc_read.specs.Chars.{holds, split_front, starts}
use Rattle.doc_read.specs.Rest.{IsRest}
use Rattle.doc_read.proofs.Fronts.{both, false_unless, split_again}
use Rattle.doc_read.proofs.Marks.{neither}
use Rattle.doc_read.proofs.Bytes.{chars_pass}

-- ---- a class of all characters but some of ASCII

module _ (class : Class) (stop : ℕ → Bool) (low : (b : ℕ) → stop b ≡ true → b < 128) (is : (c : ℕ) → holds class c ≡ not (stop c)) where
  above : (n : ℕ) → 128 ≤ n → stop n ≡ false
  above n le = false_unless (stop n) (λ e. omega (arith, low n e))

  all_held : (cs : List ℕ) → list_any stop cs ≡ false → list_all (holds class) cs ≡ true
  all_held [] none = refl
  all_held (c ∷ cs) none =
      let p = neither (stop c) (list_any stop cs) none in
      rw (is c, p.0) (all_held cs p.1)

  held_chars : (bs : List ℕ) → IsUtf8 bs → list_any stop bs ≡ false → list_all (holds class) (chars bs) ≡ true
  held_chars bs text none = all_held (chars bs) (sym (chars_pass stop above bs text) ∙ none)

  none_before : (bs : List ℕ) (n : ℕ) → n ≤ length bs → Nowhere (Passes stop bs) 0 n → list_any stop (take n bs) ≡ false
  none_before bs n le none =
      list_any_none stop (take n bs) (λ k d lt.
      let below : k < n = omega (arith, length-take n bs, lt) in
      rw (get_or-take n bs k d below, get_or_default_zero bs k d (omega arith)) (false_unless (stop (get_or bs k 0)) (none k (omega arith) below)))

  -- a text is skipped up to the first of them
  module _ (bs : List ℕ) (text : IsUtf8 bs) where
    -- where there is none, the whole of it
    pub skips_all : Nowhere (Passes stop bs) 0 (length bs) → chars [] ≡ (split_front class (chars bs)).1
    skips_all none =
        let all = held_chars bs text (ap (list_any stop) (sym (take_all (length bs) bs (omega arith))) ∙ none_before bs (length bs) (omega arith) none) in
        chars-nil ∙ sym (ap (λ (cs : List ℕ). (split_front class cs).1) (sym (append-nil (chars bs))) ∙ ap (λ p. p.1) (split_again class (chars bs) [] all refl))

    module _ (n : ℕ) (lt : n < length bs) (stops : stop (slice_index bs n) ≡ true) where
      below : get_or bs n 0 < 128
      below = low (get_or bs n 0) stops

      pub cut : IsCharBoundary bs n
      cut = IsCharBoundary-before_ascii bs n lt below

      first_byte : chars (drop n bs) ≡ get_or bs n 0 ∷ chars (drop (n + 1) bs)
      first_byte =
          let one = IsAscii-cons (get_or bs n 0) [] below IsAscii-nil in
          ap chars (drop_more bs n 0 lt) ∙ chars-append (get_or bs n 0 ∷ []) (drop (n + 1) bs) (IsUtf8-from_ascii _ one)
          ∙ ap (λ (cs : List ℕ). cs ++ chars (drop (n + 1) bs)) (chars-IsAscii (get_or bs n 0 ∷ []) one)

      pub skips_front : Nowhere (Passes stop bs) 0 n → chars (drop n bs) ≡ (split_front class (chars bs)).1
      skips_front none =
          let front = IsUtf8-take bs n text cut in
          let all = held_chars (take n bs) front (none_before bs n (omega arith) none) in
          let here : starts class (chars (drop n bs)) ≡ false = rw first_byte (is (get_or bs n 0) ∙ ap not stops) in
          let parts : chars bs ≡ chars (take n bs) ++ chars (drop n bs) = ap chars (sym (take-append-drop n bs)) ∙ chars-append (take n bs) (drop n bs) front in
          sym (ap (λ (cs : List ℕ). (split_front class cs).1) parts ∙ ap (λ p. p.1) (split_again class (chars (take n bs)) (chars (drop n bs)) all here))

-- ---- what stops a text, and a value between quotes

pub text_low : (b : ℕ) → is_byte2 60 38 b ≡ true → b < 128
text_low b e = grind (arith, nat_tests, e)

pub text_is : (c : ℕ) → holds Text c ≡ not (is_byte2 60 38 c)
text_is c = two (c == 60) (c == 38)
  where
    two : (x y : Bool) → (not x && not y) ≡ not (x || y)
    two true y = refl
    two false y = refl

pub value_low : (quote : ℕ) → quote < 128 → (b : ℕ) → is_byte3 quote 60 38 b ≡ true → b < 128
value_low quote lt b e = grind (arith, nat_tests, e, lt)

pub value_is : (quote : ℕ) (c : ℕ) → holds (Value quote) c ≡ not (is_byte3 quote 60 38 c)
value_is quote c = three (c == quote) (c == 60) (c == 38)
  where
    three : (x y z : Bool) → (not x && not y && not z) ≡ not (x || y || z)
    three true y z = refl
    three false true z = refl
    three false false z = refl

-- ---- a class of ASCII alone

module _ (class : Class) (low : (c : ℕ) → holds class c ≡ true → c < 128) where
  ascii_of : (bs : List ℕ) → list_all (holds class) bs ≡ true → IsAscii bs
  ascii_of [] all = IsAscii-nil
  ascii_of (b ∷ bs) all =
      let p = both (holds class b) (list_all (holds class) bs) all in
      IsAscii-cons b bs (low b p.0) (ascii_of bs p.1)

  none_above : (c : ℕ) → 128 ≤ c → holds class c ≡ false
  none_above c le = false_unless (holds class c) (λ e. omega (arith, low c e))

  -- the first byte tells of the first character
  starts_encoded : (cs : List ℕ) → starts class (encode_utf8_all cs) ≡ starts class cs
  unfolding encode_utf8
  starts_encoded [] = refl
  starts_encoded (c ∷ cs) =
      elim (cases_lt c 128) [
        | inl lt ↦ rw (encode_ascii c lt) refl
        | inr le ↦ more (ltb c 128) (ltb c 2048) (ltb c 65536) le ∙ sym (none_above c le)
      ]
    where
      more : (x y z : Bool) → 128 ≤ c
          → starts class (cond x (c ∷ []) (cond y ((192 + c / 64) ∷ (128 + c % 64) ∷ []) (cond z ((224 + c / 4096) ∷ (128 + (c / 64) % 64) ∷ (128 + c % 64) ∷ []) ((240 + c / 262144) ∷ (128 + (c / 4096) % 64) ∷ (128 + (c / 64) % 64) ∷ (128 + c % 64) ∷ []))) ++ encode_utf8_all cs) ≡ false
      more true y z le = none_above c le
      more false true z le = none_above (192 + c / 64) (omega arith)
      more false false true le = none_above (224 + c / 4096) (omega arith)
      more false false false le = none_above (240 + c / 262144) (omega arith)

  starts_by_byte : (bs : List ℕ) → IsUtf8 bs → starts class (chars bs) ≡ starts class bs
  starts_by_byte bs text = sym (starts_encoded (chars bs)) ∙ ap (starts class) (encodes-chars bs text)

  module _ (bs : List ℕ) (text : IsUtf8 bs) (n : ℕ) (le : n ≤ length bs) (all : list_all (holds class) (take n bs) ≡ true) where
    pub name_cut : IsCharBoundary bs n
    name_cut = IsCharBoundary-from_take bs n text le (IsUtf8-from_ascii (take n bs) (ascii_of (take n bs) all))

    pub skips_bytes : starts class (drop n bs) ≡ false → chars (drop n bs) ≡ (split_front class (chars bs)).1
    skips_bytes stops =
        let ascii = ascii_of (take n bs) all in
        let front = IsUtf8-from_ascii (take n bs) ascii in
        let here : starts class (chars (drop n bs)) ≡ false = starts_by_byte (drop n bs) (IsUtf8-drop bs n text name_cut) ∙ stops in
        let held : list_all (holds class) (chars (take n bs)) ≡ true = ap (list_all (holds class)) (chars-IsAscii (take n bs) ascii) ∙ all in
        let parts : chars bs ≡ chars (take n bs) ++ chars (drop n bs) = ap chars (sym (take-append-drop n bs)) ∙ chars-append (take n bs) (drop n bs) front in
        sym (ap (λ (cs : List ℕ). (split_front class cs).1) parts ∙ ap (λ p. p.1) (split_again class (chars (take n bs)) (chars (drop n bs)) held here))

pub stops_here : (class : Class) (bs : List ℕ) (n : ℕ) → n < length bs → holds class (slice_index bs n) ≡ false → starts class (drop n bs) ≡ false
stops_here class bs n lt fails = rw (drop_more bs n 0 lt) fails

pub stops_there : (class : Class) (bs : List ℕ) (n : ℕ) → length bs ≤ n → starts class (drop n bs) ≡ false
stops_there class bs n le = rw (drop_all n bs le) refl

pub name_low : (c : ℕ) → holds NamePart c ≡ true → c < 128
name_low c e = grind (arith, nat_tests, e)

-- ---- and what is left is a rest

pub all_read : (bs : List ℕ) → IsRest bs []
all_read bs = (bs, sym (append-nil bs))

pub dropped : (bs : List ℕ) (n : ℕ) → IsRest bs (drop n bs)
dropped bs n = (take n bs, sym (take-append-drop n bs))
