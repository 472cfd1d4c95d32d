-- How a text is read as a value of a kind.
use Rattle.std.specs.Prelude.{ℕ, ℤ, pos, neg_ℤ, ◌^◌, ◌+◌, ◌-◌, Bool, true, false, ◌&&◌, ◌||◌, if◌then◌else◌, ◌==◌, nat_lt, List, length, take, drop, slice_index, codes, Option, Some, None, option_map, Result, Ok, Err}
use Rattle.std.specs.List.{prefix_len, suffix_len}
use Rattle.std.specs.Str.{chars, bytes_eq, all_ascii_digits}
use Rattle.std.specs.Str.Parse.{digits_value}
use Rattle.feature_values.specs.declared.schema.ValueKind.{ValueKind}
use Rattle.feature_values.specs.declared.schema.ValueKind.TheVariants.{Words as WordsKind, Whole as WholeKind, Truth as TruthKind}
use Rattle.feature_values.specs.declared.schema.Property.{Property}
use Rattle.feature_values.specs.declared.value.Value.{Value}
use Rattle.feature_values.specs.declared.value.Value.TheVariants.{Words, Whole, Truth}
use Rattle.feature_values.specs.declared.fault.ValueFault.{ValueFault}
use Rattle.feature_values.specs.declared.fault.ValueFault.TheVariants.{BadValue, TooLong}

-- white space: a space, a tab or a line feed. A carriage return is none, since a reader of documents makes line feeds of
-- those that are not written as references.
unfoldable pub is_space : ℕ → Bool
is_space b = (b == 32) || (b == 9) || (b == 10)

-- a text without the white space that it begins with
abbrev pub without_leading : List ℕ → List ℕ
without_leading text = drop (prefix_len is_space text) text

-- a text without the white space that it ends with
abbrev pub without_trailing : List ℕ → List ℕ
without_trailing text = take (length text - suffix_len is_space text) text

-- a text without the white space at both its ends
unfoldable pub trimmed : List ℕ → List ℕ
trimmed text = without_trailing (without_leading text)

-- one decimal digit or more, and nothing else
abbrev pub is_numeral : List ℕ → Bool
is_numeral text = nat_lt 0 (length text) && all_ascii_digits text

-- the number that digits write, below a bound
abbrev pub numeral_below : ℕ → List ℕ → Option ℕ
numeral_below bound text = if is_numeral text && nat_lt (digits_value 10 text) bound then Some (digits_value 10 text) else None

-- A whole number of 64 bits with sign (XML Schema Part 2, 3.3.20): an optional sign and decimal digits, of which the
-- first ones may be 0.
unfoldable pub whole_of : List ℕ → Option ℤ
whole_of text =
    if slice_index text 0 == 45 then option_map (λ n. neg_ℤ (pos n)) (numeral_below (2 ^ 63 + 1) (drop 1 text)) else
    (if slice_index text 0 == 43 then option_map pos (numeral_below (2 ^ 63) (drop 1 text)) else
    option_map pos (numeral_below (2 ^ 63) text))

-- a truth value (XML Schema Part 2, 3.2.2)
unfoldable pub truth_of : List ℕ → Option Bool
truth_of text =
    if bytes_eq text (codes "true") || bytes_eq text (codes "1") then Some true else
    (if bytes_eq text (codes "false") || bytes_eq text (codes "0") then Some false else None)

-- a text with more characters than this
unfoldable pub is_longer : List ℕ → ℕ → Bool
is_longer text max = nat_lt max (length (chars text))

abbrev pub a_whole : Option ℤ → Result Value ValueFault
a_whole None = Err BadValue
a_whole (Some number) = Ok (Whole number)

abbrev pub a_truth : Option Bool → Result Value ValueFault
a_truth None = Err BadValue
a_truth (Some truth) = Ok (Truth truth)

-- A text as a value of a kind. A text of words is taken whole; numbers and truth values lose the white space at both
-- ends; no text is a geometry.
unfoldable pub read_as : ValueKind → List ℕ → Result Value ValueFault
read_as WordsKind text = Ok (Words text)
read_as WholeKind text = a_whole (whole_of (trimmed text))
read_as TruthKind text = a_truth (truth_of (trimmed text))
read_as kind text = Err BadValue

-- whether a value is a text of more characters than this
abbrev pub is_too_long : Value → ℕ → Bool
is_too_long (Words text) max = is_longer text max
is_too_long value max = false

abbrev pub within : ℕ → Result Value ValueFault → Result Value ValueFault
within max (Err fault) = Err fault
within max (Ok value) = if is_too_long value max then Err TooLong else Ok value

-- A text as a value of a property: of its kind, and a text of no more characters than it allows.
unfoldable pub reads : Property → List ℕ → Result Value ValueFault
reads property text = within property.max (read_as property.kind text)
