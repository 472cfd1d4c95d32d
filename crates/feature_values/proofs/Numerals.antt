-- What std's `parse` reads at i64 is what `whole_of` gives.
use Rattle.std.proofs.Common.{◌≡◌, ◌≢◌, ℕ, ◌+◌, ◌^◌, ◌<◌, ◌≤◌, Bool, true, false, ◌&&◌, List, [], ◌∷◌, length, get_or, drop, Option, Some, None, Result, Ok, Err, refl, sym, ap, ◌∙◌, arith, eq-eqb, ne_eqb, w64}
use Rattle.std.specs.Prelude.{ℤ, pos, neg_ℤ, if◌then◌else◌, ◌==◌, nat_lt, option_map}
use Rattle.std.specs.Result.{OkIff, result_ok}
use Rattle.std.specs.Str.{all_ascii_digits, IsUtf8, IsAscii}
use Rattle.std.specs.Str.Parse.{ParsesSigned, ParsesUnsigned, digits_value}
use Rattle.std.proofs.lemmas.Str.{IsUtf8-from_ascii}
use Rattle.std.proofs.lemmas.Str.Ascii.{IsAscii-nil, IsAscii-cons}
use Rattle.std.proofs.lemmas.Str.Parse.{IsNumeralModel, numerals_by_value, tells_all_ascii_digits, parse_plain, parse_signed_minus, parse_signed_plus, parse_signed_plain}
use Rattle.feature_values.specs.Reads.{is_numeral, numeral_below, whole_of}
use Rattle.feature_values.specs.Ids.{number_of}

abbrev IsDigits : List ℕ → Type 0
IsDigits text = all_ascii_digits text ≡ true

own : IsNumeralModel IsDigits (digits_value 10)
own = numerals_by_value IsDigits tells_all_ascii_digits

-- a test that holds exactly where a call is Ok
told : {T E : Type 0} (r : Result T E) (P : Type 0) (v w : T) (b : Bool) → OkIff r P v → (P → b ≡ true) → (b ≡ true → P) → v ≡ w → result_ok r ≡ (if b then Some w else None)
told (Ok x) P v w true h f g e = ap Some (h.1 ∙ e)
told (Ok x) P v w false h f g e = absurd (let bad = f h.0 in cc)
told (Err x) P v w true h f g e = absurd (h (g refl))
told (Err x) P v w false h f g e = refl

mapped : {A B : Type 0} (f : A → B) (b : Bool) (x : A) → option_map f (if b then Some x else None) ≡ (if b then Some (f x) else None)
mapped f true x = refl
mapped f false x = refl

test_on : (bound : ℕ) (text : List ℕ) → IsDigits text × (0 < length text) × (digits_value 10 text < bound) → (is_numeral text && nat_lt (digits_value 10 text) bound) ≡ true
test_on bound text h = grind (arith, h.0, h.1, h.2)

test_tells : (bound : ℕ) (text : List ℕ) → (is_numeral text && nat_lt (digits_value 10 text) bound) ≡ true → IsDigits text × (0 < length text) × (digits_value 10 text < bound)
test_tells bound text h = (grind (arith, h), grind (arith, h), grind (arith, h))

below : {E : Type 0} (f : ℕ → ℤ) (bound : ℕ) (text : List ℕ) (r : Result ℤ E) → OkIff r (IsDigits text × (0 < length text) × (digits_value 10 text < bound)) (f (digits_value 10 text))
    → result_ok r ≡ option_map f (numeral_below bound text)
below f bound text r h = told r _ _ _ _ h (test_on bound text) (test_tells bound text) refl ∙ sym (mapped f _ _)

-- by the text's sign
abbrev by_sign : List ℕ → Bool → Bool → Option ℤ
by_sign text is_minus is_plus =
    if is_minus then option_map (λ n. neg_ℤ (pos n)) (numeral_below (2 ^ 63 + 1) (drop 1 text)) else
    (if is_plus then option_map pos (numeral_below (2 ^ 63) (drop 1 text)) else option_map pos (numeral_below (2 ^ 63) text))

is_byte : (b c : ℕ) → (b == c) ≡ true → b ≡ c
is_byte b c e = grind (arith, e)

is_other : (b c : ℕ) → (b == c) ≡ false → b ≢ c
is_other b c e = λ same. absurd (let bad = sym e ∙ eq-eqb b c same in cc)

-- the lemmas of std bound a number below zero by ≤
up_to : {E : Type 0} (text : List ℕ) (r : Result ℤ E) (z : ℤ) → OkIff r (IsDigits text × (0 < length text) × (digits_value 10 text ≤ 2 ^ 63)) z → OkIff r (IsDigits text × (0 < length text) × (digits_value 10 text < 2 ^ 63 + 1)) z
up_to text (Ok x) z h = ((h.0.0, h.0.1, omega (arith, h.0.2)), h.1)
up_to text (Err e) z h = λ p. h (p.0, p.1, omega (arith, p.2))

module _ {E : Type 0} (text : List ℕ) (r : Result ℤ E) (h : ParsesSigned w64 10 text r) where
  without_minus : get_or text 0 0 ≢ 45 → (is_plus : Bool) → (get_or text 0 0 == 43) ≡ is_plus → result_ok r ≡ by_sign text false is_plus
  without_minus other true e = below pos (2 ^ 63) (drop 1 text) r (parse_signed_plus own w64 text r h (is_byte _ _ e))
  without_minus other false e = below pos (2 ^ 63) text r (parse_signed_plain own w64 text r h (is_other _ _ e) other)

  with_sign : (is_minus : Bool) → (get_or text 0 0 == 45) ≡ is_minus → result_ok r ≡ by_sign text is_minus (get_or text 0 0 == 43)
  with_sign true e = below (λ n. neg_ℤ (pos n)) (2 ^ 63 + 1) (drop 1 text) r (up_to (drop 1 text) r _ (parse_signed_minus own w64 text r h (is_byte _ _ e)))
  with_sign false e = without_minus (is_other _ _ e) _ refl

  pub parse_is : result_ok r ≡ whole_of text
  unfolding whole_of
  parse_is = with_sign _ refl

-- a text that is no UTF-8 is no whole number

digits_are_ascii : (text : List ℕ) → IsDigits text → IsAscii text
digits_are_ascii [] h = IsAscii-nil
digits_are_ascii (c ∷ cs) h = IsAscii-cons c cs (grind (arith, h)) (digits_are_ascii cs (grind (arith, h)))

is_none : (bound : ℕ) (text : List ℕ) → (IsDigits text → ⊥) → numeral_below bound text ≡ None
is_none bound text h = by (all_ascii_digits text) refl
  where
    by : (b : Bool) → all_ascii_digits text ≡ b → numeral_below bound text ≡ None
    by true e = absurd (h e)
    by false e = rw e (grind arith)

behind_sign : (c : ℕ) (text : List ℕ) → get_or text 0 0 ≡ c → 0 < c → c < 128 → (IsUtf8 text → ⊥) → IsDigits (drop 1 text) → ⊥
behind_sign c [] e some small h d = omega arith
behind_sign c (x ∷ xs) e some small h d = h (IsUtf8-from_ascii (x ∷ xs) (IsAscii-cons x xs (omega (arith, e)) (digits_are_ascii xs d)))

module _ (text : List ℕ) (h : IsUtf8 text → ⊥) where
  no_plus : (is_plus : Bool) → (get_or text 0 0 == 43) ≡ is_plus → by_sign text false is_plus ≡ None
  no_plus true e = ap (option_map pos) (is_none (2 ^ 63) (drop 1 text) (behind_sign 43 text (is_byte _ _ e) (omega arith) (omega arith) h))
  no_plus false e = ap (option_map pos) (is_none (2 ^ 63) text (λ d. h (IsUtf8-from_ascii text (digits_are_ascii text d))))

  no_sign : (is_minus : Bool) → (get_or text 0 0 == 45) ≡ is_minus → by_sign text is_minus (get_or text 0 0 == 43) ≡ None
  no_sign true e = ap (option_map (λ n. neg_ℤ (pos n))) (is_none (2 ^ 63 + 1) (drop 1 text) (behind_sign 45 text (is_byte _ _ e) (omega arith) (omega arith) h))
  no_sign false e = no_plus _ refl

  pub no_text_is_none : whole_of text ≡ None
  unfolding whole_of
  no_text_is_none = no_sign _ refl

-- a number without a sign

below_nat : {E : Type 0} (bound : ℕ) (text : List ℕ) (r : Result ℕ E) → OkIff r (IsDigits text × (0 < length text) × (digits_value 10 text < bound)) (digits_value 10 text) → result_ok r ≡ numeral_below bound text
below_nat bound text r h = told r _ _ _ _ h (test_on bound text) (test_tells bound text) refl

pub parse_number_is : {E : Type 0} (text : List ℕ) (r : Result ℕ E) → ParsesUnsigned 64 10 text r → get_or text 0 0 ≢ 48 → get_or text 0 0 ≢ 43 → result_ok r ≡ number_of text
unfolding number_of
parse_number_is text r h no_zero no_plus = below_nat (2 ^ 64) text r (parse_plain own 64 text r h no_plus) ∙ sym (ap (λ (b : Bool). if b then None else numeral_below (2 ^ 64) text) (ne_eqb _ 48 no_zero))
