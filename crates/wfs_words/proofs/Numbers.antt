-- What std's parse of a number says, in the words of this crate.
use Rattle.std.proofs.Common.{◌≡◌, ℕ, ◌<◌, ◌^◌, Bool, true, false, ◌&&◌, List, length, if◌then◌else◌, refl, sym, ap, ◌∙◌, arith, Some, None, nat_lt, nat_le}
use Rattle.std.specs.Prelude.{Result, Ok, Err}
use Rattle.std.specs.Str.{all_ascii_digits}
use Rattle.std.specs.Str.Parse.{IsNumeral, digits_value, without_leading_plus, ParsesUnsigned}
use Rattle.std.proofs.lemmas.Bool.Decides.{nat_tests}
use Rattle.std.proofs.lemmas.Str.Parse.{IsNumeralModel, numerals_by_value, tells_all_ascii_digits}
use Rattle.wfs_words.specs.Words.{number, number_in, within}

own : IsNumeralModel (λ ds. all_ascii_digits ds ≡ true) (digits_value 10)
own = numerals_by_value (λ ds. all_ascii_digits ds ≡ true) tells_all_ascii_digits

some_length : (ds : List ℕ) → 0 < length ds → nat_lt 0 (length ds) ≡ true
some_length ds some = grind (arith, nat_tests)

length_some : (ds : List ℕ) → nat_lt 0 (length ds) ≡ true → 0 < length ds
length_some ds is = grind (arith, nat_tests)

numeral_is : (ds : List ℕ) → IsNumeral 10 ds → number ds ≡ Some (digits_value 10 ds)
numeral_is ds is = rw (some_length ds is.0, own.from ds is.1) refl

-- a text that is a number in range
pub parsed : {E : Type 0} (low high n : ℕ) (text : List ℕ) (r : Result ℕ E) → ParsesUnsigned 32 10 text r → r ≡ Ok n → within low high n ≡ number_in low high text
unfolding number_in
parsed low high n text (Err e) p is = absurd cc
parsed low high n text (Ok m) p is =
    let same : m ≡ n = cc in
    let value : n ≡ digits_value 10 (without_leading_plus text) = sym same ∙ p.1 in
    rw (numeral_is (without_leading_plus text) p.0.0) (ap (within low high) value)

-- a text that is none, or is too large
pub not_parsed : {E : Type 0} (low high : ℕ) (text : List ℕ) (r : Result ℕ E) (e : E) → ParsesUnsigned 32 10 text r → r ≡ Err e → high < 2 ^ 32 → None ≡ number_in low high text
unfolding number_in
not_parsed low high text (Ok m) e p is fits = absurd cc
not_parsed low high text (Err x) e p is fits = by (nat_lt 0 (length ds)) (all_ascii_digits ds) refl refl
  where
    ds : List ℕ
    ds = without_leading_plus text

    by : (some digits : Bool) → nat_lt 0 (length ds) ≡ some → all_ascii_digits ds ≡ digits → None ≡ number_in low high text
    by false digits e' d = rw e' refl
    by true false e' d = rw (e', d) refl
    by true true e' d = rw (e', d) (large (digits_value 10 ds) (λ lt. p ((length_some ds e', own.to ds d), lt)))
      where
        large : (v : ℕ) → (v < 2 ^ 32 → ⊥) → None ≡ within low high v
        large v no_fit = let over : nat_le v high ≡ false = grind (arith, nat_tests) in out (nat_le low v) over
          where
            out : (t : Bool) → nat_le v high ≡ false → None ≡ (if t && nat_le v high then Some v else None)
            out true o = rw o refl
            out false o = refl
