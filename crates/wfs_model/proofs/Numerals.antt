-- What std's `parse` reads at 32 bits is what `count_of` gives.
use Rattle.std.proofs.Common.{◌≡◌, ◌≢◌, ℕ, ◌^◌, ◌<◌, Bool, true, false, ◌&&◌, List, length, get_or, Some, None, Result, Ok, Err, refl, ap, arith}
use Rattle.std.specs.Prelude.{nat_lt, if◌then◌else◌}
use Rattle.std.specs.Result.{OkIff, result_ok}
use Rattle.std.specs.Str.{all_ascii_digits}
use Rattle.std.specs.Str.Parse.{ParsesUnsigned, digits_value}
use Rattle.std.proofs.lemmas.Str.Parse.{IsNumeralModel, numerals_by_value, tells_all_ascii_digits, parse_plain}
use Rattle.feature_values.specs.Reads.{is_numeral}
use Rattle.wfs_model.specs.Terms.{count_of}

abbrev IsDigits : List ℕ → Type 0
IsDigits text = all_ascii_digits text ≡ true

own : IsNumeralModel IsDigits (digits_value 10)
own = numerals_by_value IsDigits tells_all_ascii_digits

-- a test that holds exactly where a call is Ok
told : {T E : Type 0} (r : Result T E) (P : Type 0) (v : T) (b : Bool) → OkIff r P v → (P → b ≡ true) → (b ≡ true → P) → result_ok r ≡ (if b then Some v else None)
told (Ok x) P v true h f g = ap Some h.1
told (Ok x) P v false h f g = absurd (let bad = f h.0 in cc)
told (Err x) P v true h f g = absurd (h (g refl))
told (Err x) P v false h f g = refl

test_on : (text : List ℕ) → IsDigits text × (0 < length text) × (digits_value 10 text < 2 ^ 32) → (is_numeral text && nat_lt (digits_value 10 text) (2 ^ 32)) ≡ true
test_on text h = grind (arith, h.0, h.1, h.2)

test_tells : (text : List ℕ) → (is_numeral text && nat_lt (digits_value 10 text) (2 ^ 32)) ≡ true → IsDigits text × (0 < length text) × (digits_value 10 text < 2 ^ 32)
test_tells text h = (grind (arith, h), grind (arith, h), grind (arith, h))

pub parse_count_is : {E : Type 0} (text : List ℕ) (r : Result ℕ E) → ParsesUnsigned 32 10 text r → get_or text 0 0 ≢ 43 → result_ok r ≡ count_of text
unfolding count_of
parse_count_is text r h no_plus = told r _ _ _ (parse_plain own 32 text r h no_plus) (test_on text) (test_tells text)
