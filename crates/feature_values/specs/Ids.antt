-- The identifiers of features, and the numbers of types and properties by their names. That an identifier is the type's
-- name, a dot and a number is this project's own.
use Rattle.std.specs.Prelude.{ℕ, ◌^◌, Bool, if◌then◌else◌, ◌==◌, nat_lt, List, length, slice_index, option_map, Option, Some, None}
use Rattle.std.specs.Option.{option_and_then}
use Rattle.std.specs.List.{position_from, position_or_len, before_first, after_first}
use Rattle.std.specs.Str.{bytes_eq}
use Rattle.feature_values.specs.declared.schema.FeatureType.{FeatureType}
use Rattle.feature_values.specs.declared.schema.Schema.{Schema}
use Rattle.feature_values.specs.declared.feature.Rid.{Rid}
use Rattle.feature_values.specs.Reads.{numeral_below}

-- a number of 32 bits
abbrev pub of_32_bits : ℕ → Option ℕ
of_32_bits n = if nat_lt n (2 ^ 32) then Some n else None

-- the number of the first type with this name
unfoldable pub type_named : Schema → List ℕ → Option ℕ
type_named schema name = option_and_then of_32_bits (position_from (λ t. bytes_eq t.name name) 0 schema.types)

-- the number of the first property with this name
unfoldable pub property_named : FeatureType → List ℕ → Option ℕ
property_named of_type name = option_and_then of_32_bits (position_from (λ p. bytes_eq p.name name) 0 of_type.properties)

abbrev pub is_colon : ℕ → Bool
is_colon b = b == 58

-- a name behind its prefix: what stands after the first colon, or all where there is none
unfoldable pub without_prefix : List ℕ → List ℕ
without_prefix name = if position_or_len is_colon name == length name then name else after_first is_colon name

-- a number of 64 bits from 1 on, in decimal digits without a leading 0
unfoldable pub number_of : List ℕ → Option ℕ
number_of text = if slice_index text 0 == 48 then None else numeral_below (2 ^ 64) text

abbrev pub is_dot : ℕ → Bool
is_dot b = b == 46

-- the feature that an identifier names: before the first dot the type's name, and behind it the number
unfoldable pub rid_of : Schema → List ℕ → Option Rid
rid_of schema text =
    option_and_then (λ number. option_map (λ kind. record { kind = kind; number = number }) (type_named schema (before_first is_dot text))) (number_of (after_first is_dot text))
