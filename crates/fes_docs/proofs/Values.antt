-- The text that is written for a value reads back as that value.
use Rattle.std.proofs.Common.{◌≡◌, ℕ, zero, suc, ◌+◌, ◌-◌, ◌^◌, ◌<◌, Bool, true, false, ◌&&◌, List, [], ◌∷◌, length, get_or, take, drop, Option, Some, None, Ok, refl, sym, ap, subst, ◌∙◌, arith, eq-eqb}
use Rattle.std.specs.Prelude.{ℤ, pos, negsuc, neg_ℤ, option_map, if◌then◌else◌, nat_lt, ◌==◌, All}
use Rattle.std.specs.List.{suffix_len}
use Rattle.std.specs.Char.{is_ascii_digit}
use Rattle.std.specs.Fmt.{decimal, signed_decimal}
use Rattle.std.specs.Str.{all_ascii_digits}
use Rattle.std.specs.Str.Parse.{digits_value}
use Rattle.std.proofs.lemmas.Fmt.{decimal_nonempty, digits_decimal, digits_value-decimal, decimal-digits_value}
use Rattle.std.proofs.lemmas.List.{take_all}
use Rattle.std.proofs.lemmas.List.Elements.{All-cons, All-head}
use Rattle.std.proofs.lemmas.Str.Parse.{IsNumeralModel, numerals_by_value, tells_all_ascii_digits}
use Rattle.wfs_ends.proofs.Turns.{ok_is}
use Rattle.feature_values.specs.Reads.{is_space, trimmed, without_leading, is_numeral, numeral_below, whole_of, truth_of, a_whole, a_truth, read_as}
use Rattle.feature_values.specs.declared.schema.ValueKind.{ValueKind}
use Rattle.feature_values.specs.declared.schema.ValueKind.TheVariants as Kind
use Rattle.feature_values.specs.declared.value.Value.{Value}
use Rattle.feature_values.specs.declared.value.Value.TheVariants.{Words, Whole, Truth}
use Rattle.feature_values.specs.declared.fault.ValueFault.{ValueFault}
use Rattle.feature_values.proofs.Spaces.{ends_in_none}
use Rattle.fes_docs.specs.Written.{truth_text, value_text}
use Rattle.fes_docs.proofs.Named.{some_is, map_some}

abbrev IsDigits : List ℕ → Type 0
IsDigits ds = all_ascii_digits ds ≡ true

own : IsNumeralModel IsDigits (digits_value 10)
own = numerals_by_value IsDigits tells_all_ascii_digits

first_digit : (d : ℕ) (ds : List ℕ) → IsDigits (d ∷ ds) → is_ascii_digit d ≡ true
first_digit d ds h = grind (arith, h)

other_digits : (d : ℕ) (ds : List ℕ) → IsDigits (d ∷ ds) → IsDigits ds
other_digits d ds h = grind (arith, h)

-- ---- no white space is cut off

abbrev Plain : List ℕ → Type 0
Plain text = All (λ b. is_space b ≡ false) text

digit_plain : (b : ℕ) → is_ascii_digit b ≡ true → is_space b ≡ false
unfolding is_space
digit_plain b e = grind (arith, e)

minus : is_space 45 ≡ false
unfolding is_space
minus = refl

more_plain : (b : ℕ) (bs : List ℕ) → is_space b ≡ false → Plain bs → Plain (b ∷ bs)
more_plain b bs e h = All-cons (λ c. is_space c ≡ false) b bs e h

digits_plain : (ds : List ℕ) → IsDigits ds → Plain ds
digits_plain [] h = λ k d lt. absurd (omega arith)
digits_plain (d ∷ ds) h = more_plain d ds (digit_plain d (first_digit d ds h)) (digits_plain ds (other_digits d ds h))

none_leads : (text : List ℕ) → Plain text → without_leading text ≡ text
none_leads [] h = refl
none_leads (b ∷ bs) h = rw (All-head (λ c. is_space c ≡ false) b bs h) refl

none_trails : (text : List ℕ) → Plain text → 0 < length text → suffix_len is_space text ≡ 0
none_trails text h some =
    let last : is_space (get_or text (length text - 1) 0) ≡ false = h (length text - 1) 0 (omega (arith, some)) in
    ap (suffix_len is_space) (sym (take_all (length text) text (omega arith))) ∙ ends_in_none text (length text) some (omega arith) last

untrimmed : (text : List ℕ) → Plain text → 0 < length text → trimmed text ≡ text
unfolding trimmed
untrimmed text h some =
    rw (none_leads text h)
    (rw (none_trails text h some) (ap (λ n. take n text) (omega arith) ∙ take_all (length text) text (omega arith)))

-- ---- whole numbers

-- those of 64 bits with sign
abbrev pub IsWhole : ℤ → Type 0
IsWhole (pos n) = n < 2 ^ 63
IsWhole (negsuc n) = n < 2 ^ 63

below : (bound : ℕ) (text : List ℕ) (n : ℕ) (b : Bool) → b ≡ (is_numeral text && nat_lt (digits_value 10 text) bound) → (if b then Some (digits_value 10 text) else None) ≡ Some n → n < bound
below bound text n true is e =
    let n_is : digits_value 10 text ≡ n = some_is _ n e in
    grind (arith, is, n_is)
below bound text n false is e = absurd cc

numeral_small : (bound : ℕ) (text : List ℕ) (n : ℕ) → numeral_below bound text ≡ Some n → n < bound
numeral_small bound text n e = below bound text n _ refl e

negated : (n : ℕ) → n < 2 ^ 63 + 1 → IsWhole (neg_ℤ (pos n))
negated zero h = omega arith
negated (suc n) h = omega (arith, h)

-- by the sign
abbrev signed : List ℕ → Bool → Bool → Option ℤ
signed text is_minus is_plus =
    if is_minus then option_map (λ n. neg_ℤ (pos n)) (numeral_below (2 ^ 63 + 1) (drop 1 text)) else
    (if is_plus then option_map pos (numeral_below (2 ^ 63) (drop 1 text)) else option_map pos (numeral_below (2 ^ 63) text))

signed_is : (text : List ℕ) (is_minus is_plus : Bool) (z : ℤ) → signed text is_minus is_plus ≡ Some z → IsWhole z
signed_is text true is_plus z e =
    let n = map_some (λ m. neg_ℤ (pos m)) (numeral_below (2 ^ 63 + 1) (drop 1 text)) z e in
    subst IsWhole n.2 (negated n.0 (numeral_small (2 ^ 63 + 1) (drop 1 text) n.0 n.1))
signed_is text false true z e =
    let n = map_some pos (numeral_below (2 ^ 63) (drop 1 text)) z e in
    subst IsWhole n.2 (numeral_small (2 ^ 63) (drop 1 text) n.0 n.1)
signed_is text false false z e =
    let n = map_some pos (numeral_below (2 ^ 63) text) z e in
    subst IsWhole n.2 (numeral_small (2 ^ 63) text n.0 n.1)

whole_is : (text : List ℕ) (z : ℤ) → whole_of text ≡ Some z → IsWhole z
unfolding whole_of
whole_is text z e = signed_is text _ _ z e

numeral_again : (bound n : ℕ) → n < bound → n < 2 ^ 64 → numeral_below bound (decimal n) ≡ Some n
numeral_again bound n lt h =
    let digits : all_ascii_digits (decimal n) ≡ true = digits_decimal own n h in
    let some : nat_lt 0 (length (decimal n)) ≡ true = grind (arith, decimal_nonempty n h) in
    let value : digits_value 10 (decimal n) ≡ n = digits_value-decimal own n h in
    let small : nat_lt n bound ≡ true = grind (arith, lt) in
    rw (digits, some, value, small) refl

no_sign : (ds : List ℕ) → IsDigits ds → 0 < length ds → ((get_or ds 0 0 == 45) ≡ false) × ((get_or ds 0 0 == 43) ≡ false) × ((get_or ds 0 0 == 36) ≡ false)
no_sign [] h some = absurd (omega (arith, some))
no_sign (d ∷ ds) h some = (grind (arith, first_digit d ds h), grind (arith, first_digit d ds h), grind (arith, first_digit d ds h))

whole_again : (z : ℤ) → IsWhole z → whole_of (signed_decimal z) ≡ Some z
unfolding whole_of
whole_again (pos n) h =
    let ds = decimal n in
    let signs = no_sign ds (digits_decimal own n (omega (arith, h))) (decimal_nonempty n (omega (arith, h))) in
    rw (signs.0, signs.1) (ap (option_map pos) (numeral_again (2 ^ 63) n h (omega (arith, h))))
whole_again (negsuc n) h = ap (option_map (λ m. neg_ℤ (pos m))) (numeral_again (2 ^ 63 + 1) (suc n) (omega (arith, h)) (omega (arith, h)))

plain_whole : (z : ℤ) → IsWhole z → Plain (signed_decimal z) × (0 < length (signed_decimal z))
plain_whole (pos n) h = (digits_plain (decimal n) (digits_decimal own n (omega (arith, h))), decimal_nonempty n (omega (arith, h)))
plain_whole (negsuc n) h = (more_plain 45 (decimal (suc n)) minus (digits_plain (decimal (suc n)) (digits_decimal own (suc n) (omega (arith, h)))), omega arith)

-- ---- values

a_whole_is : (r : Option ℤ) (v : Value) → a_whole r ≡ Ok v → (z : ℤ) × (r ≡ Some z) × (v ≡ Whole z)
a_whole_is (Some z) v e = (z, refl, sym (ok_is ValueFault (Whole z) v e))
a_whole_is None v e = absurd cc

a_truth_is : (r : Option Bool) (v : Value) → a_truth r ≡ Ok v → (b : Bool) × (v ≡ Truth b)
a_truth_is (Some b) v e = (b, sym (ok_is ValueFault (Truth b) v e))
a_truth_is None v e = absurd cc

truth_again : (b : Bool) → truth_of (trimmed (truth_text b)) ≡ Some b
unfolding trimmed is_space truth_of
truth_again true = refl
truth_again false = refl

-- ---- numbers of identifiers

facts_if : (bound : ℕ) (text : List ℕ) (n : ℕ) (b : Bool) → (is_numeral text && nat_lt (digits_value 10 text) bound) ≡ b → (if b then Some (digits_value 10 text) else None) ≡ Some n
    → IsDigits text × (0 < length text) × (digits_value 10 text < bound) × (digits_value 10 text ≡ n)
facts_if bound text n true is e = (grind (arith, is), grind (arith, is), grind (arith, is), some_is (digits_value 10 text) n e)
facts_if bound text n false is e = absurd cc

-- a number without a leading 0 is written as it was read
pub numeral_text : (text : List ℕ) (n : ℕ) → (get_or text 0 0 == 48) ≡ false → numeral_below (2 ^ 64) text ≡ Some n → decimal n ≡ text
numeral_text text n no_zero e =
    let f = facts_if (2 ^ 64) text n _ refl e in
    ap decimal (sym f.3) ∙ decimal-digits_value own text f.0 f.1 (λ zero. absurd (let bad = sym no_zero ∙ eq-eqb (get_or text 0 0) 48 zero in cc)) f.2

pub whole_read : (text : List ℕ) (v : Value) → a_whole (whole_of (trimmed text)) ≡ Ok v → (z : ℤ) × (v ≡ Whole z) × IsWhole z
whole_read text v e =
    let read = a_whole_is (whole_of (trimmed text)) v e in
    (read.0, read.2, whole_is (trimmed text) read.0 read.1)

pub truth_read : (text : List ℕ) (v : Value) → a_truth (truth_of (trimmed text)) ≡ Ok v → (b : Bool) × (v ≡ Truth b)
truth_read text v e = a_truth_is (truth_of (trimmed text)) v e

-- the first byte of a whole number is no $
pub starts_otherwise : (z : ℤ) → IsWhole z → (0 < length (signed_decimal z)) × ((get_or (signed_decimal z) 0 0 == 36) ≡ false)
starts_otherwise (pos n) h =
    let some = decimal_nonempty n (omega (arith, h)) in
    (some, (no_sign (decimal n) (digits_decimal own n (omega (arith, h))) some).2)
starts_otherwise (negsuc n) h = (omega arith, refl)

pub value_again : (kind : ValueKind) (text : List ℕ) (v : Value) → read_as kind text ≡ Ok v → read_as kind (value_text v) ≡ Ok v
unfolding read_as
value_again Kind.Words text v e =
    let v_is : v ≡ Words text = sym (ok_is ValueFault (Words text) v e) in
    rw v_is refl
value_again Kind.Whole text v e =
    let read = whole_read text v e in
    let plain = plain_whole read.0 read.2 in
    rw read.1 (ap a_whole (ap whole_of (untrimmed (signed_decimal read.0) plain.0 plain.1) ∙ whole_again read.0 read.2))
value_again Kind.Truth text v e =
    let read = truth_read text v e in
    rw read.1 (ap a_truth (truth_again read.0))
value_again Kind.Point text v e = absurd cc
value_again Kind.Line text v e = absurd cc
value_again Kind.Polygon text v e = absurd cc
