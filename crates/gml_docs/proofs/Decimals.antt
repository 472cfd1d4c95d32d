-- A whole number that is written in decimal reads back as that number.
use Rattle.std.proofs.Common.{◌≡◌, ℕ, suc, ◌<◌, ◌^◌, true, false, List, [], ◌∷◌, length, Some, refl, ap, ◌∙◌, arith}
use Rattle.std.specs.Prelude.{ℤ, pos, negsuc, neg_ℤ, option_map, nat_lt, All, ◌==◌}
use Rattle.std.specs.Char.{is_ascii_digit}
use Rattle.std.specs.Fmt.{decimal, signed_decimal}
use Rattle.std.specs.Int.Signed.{mag}
use Rattle.std.specs.Str.{all_ascii_digits}
use Rattle.std.specs.Str.Parse.{digits_value}
use Rattle.std.proofs.lemmas.Fmt.{decimal_nonempty, digits_decimal, digits_value-decimal}
use Rattle.std.proofs.lemmas.List.{take_all, drop_all}
use Rattle.std.proofs.lemmas.List.Elements.{All-cons}
use Rattle.std.proofs.lemmas.Str.Parse.{IsNumeralModel, numerals_by_value, tells_all_ascii_digits}
use Rattle.gml_docs.specs.Numbers.{is_space, digit_count, is_fraction, is_unsigned, unsigned_of, coordinate_of}

abbrev IsDigits : List ℕ → Type 0
IsDigits ds = all_ascii_digits ds ≡ true

own : IsNumeralModel IsDigits (digits_value 10)
own = numerals_by_value IsDigits tells_all_ascii_digits

first_digit : (d : ℕ) (ds : List ℕ) → IsDigits (d ∷ ds) → is_ascii_digit d ≡ true
first_digit d ds h = grind (arith, h)

other_digits : (d : ℕ) (ds : List ℕ) → IsDigits (d ∷ ds) → IsDigits ds
other_digits d ds h = grind (arith, h)

-- all of them count
digits_alone : (ds : List ℕ) → IsDigits ds → digit_count ds ≡ length ds
digits_alone [] h = refl
digits_alone (d ∷ ds) h = rw (first_digit d ds h, digits_alone ds (other_digits d ds h)) (omega arith)

unsigned_is : (ds : List ℕ) → IsDigits ds → 0 < length ds → unsigned_of ds ≡ Some (digits_value 10 ds)
unfolding unsigned_of is_unsigned is_fraction
unsigned_is ds h some =
    let n : digit_count ds ≡ length ds = digits_alone ds h in
    let lt : nat_lt 0 (length ds) ≡ true = grind (arith, some) in
    rw (n, drop_all (length ds) ds (omega arith), take_all (length ds) ds (omega arith), lt) refl

-- without a sign, and behind a minus
positive_is : (ds : List ℕ) → IsDigits ds → 0 < length ds → coordinate_of ds ≡ option_map pos (unsigned_of ds)
unfolding coordinate_of
positive_is [] h some = absurd (omega arith)
positive_is (d ∷ ds) h some =
    let no_minus : (d == 45) ≡ false = grind (arith, first_digit d ds h) in
    let no_plus : (d == 43) ≡ false = grind (arith, first_digit d ds h) in
    rw (no_minus, no_plus) refl

negative_is : (ds : List ℕ) → coordinate_of (45 ∷ ds) ≡ option_map (λ n. neg_ℤ (pos n)) (unsigned_of ds)
unfolding coordinate_of
negative_is ds = refl

decimal_is : (n : ℕ) → n < 2 ^ 64 → unsigned_of (decimal n) ≡ Some n
decimal_is n h = unsigned_is (decimal n) (digits_decimal own n h) (decimal_nonempty n h) ∙ ap Some (digits_value-decimal own n h)

pub read_again : (z : ℤ) → mag z < 2 ^ 63 → coordinate_of (signed_decimal z) ≡ Some z
read_again (pos n) h = positive_is (decimal n) (digits_decimal own n (omega arith)) (decimal_nonempty n (omega arith)) ∙ ap (option_map pos) (decimal_is n (omega arith))
read_again (negsuc n) h = negative_is (decimal (suc n)) ∙ ap (option_map (λ m. neg_ℤ (pos m))) (decimal_is (suc n) (omega arith))

-- ---- it is a word

pub record IsWord (word : List ℕ) : Type 0 where
  pub some : 0 < length word
  pub plain : All (λ b. is_space b ≡ false) word

digit_plain : (b : ℕ) → is_ascii_digit b ≡ true → is_space b ≡ false
unfolding is_space
digit_plain b e = grind (arith, e)

all_more : (b : ℕ) (bs : List ℕ) → is_space b ≡ false → All (λ c. is_space c ≡ false) bs → All (λ c. is_space c ≡ false) (b ∷ bs)
all_more b bs e h = All-cons (λ c. is_space c ≡ false) b bs e h

minus : is_space 45 ≡ false
unfolding is_space
minus = refl

digits_plain : (ds : List ℕ) → IsDigits ds → All (λ b. is_space b ≡ false) ds
digits_plain [] h = λ k d lt. absurd (omega arith)
digits_plain (d ∷ ds) h = all_more d ds (digit_plain d (first_digit d ds h)) (digits_plain ds (other_digits d ds h))

pub number_word : (z : ℤ) → mag z < 2 ^ 63 → IsWord (signed_decimal z)
number_word (pos n) h = record { some = decimal_nonempty n (omega arith); plain = digits_plain (decimal n) (digits_decimal own n (omega arith)) }
number_word (negsuc n) h = record { some = omega arith; plain = all_more 45 (decimal (suc n)) minus (digits_plain (decimal (suc n)) (digits_decimal own (suc n) (omega arith))) }
