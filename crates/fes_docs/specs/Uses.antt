-- Parameters of stored queries in the texts of a filter. That `${name}` stands for a parameter is this project's own.
use Rattle.std.specs.Prelude.{ℕ, if◌then◌else◌, ◌==◌, List, [], ◌∷◌, Option, Some, None, option_map, Result, Ok, Err}
use Rattle.std.specs.Option.{option_and_then}
use Rattle.std.specs.List.{position_from}
use Rattle.std.specs.Str.{bytes_eq}
use Rattle.feature_values.specs.Ids.{of_32_bits}
use Rattle.fes_docs.specs.declared.fault.FilterDocFault.{FilterDocFault}
use Rattle.fes_docs.specs.declared.fault.FilterDocFault.TheVariants.{Undeclared}

-- a text without the byte that it begins with
abbrev pub behind_first : ℕ → List ℕ → Option (List ℕ)
behind_first c [] = None
behind_first c (b ∷ bs) = if b == c then Some bs else None

-- a text without the byte that it ends with
abbrev pub before_last : ℕ → List ℕ → Option (List ℕ)
before_last c [] = None
before_last c (b ∷ []) = if b == c then Some [] else None
before_last c (b ∷ d ∷ ds) = option_map (λ t. b ∷ t) (before_last c (d ∷ ds))

abbrev pub not_empty : List ℕ → Option (List ℕ)
not_empty [] = None
not_empty (b ∷ bs) = Some (b ∷ bs)

-- the name in a text that is `${`, a name of one character or more, and `}`
unfoldable pub name_in : List ℕ → Option (List ℕ)
name_in text = option_and_then not_empty (option_and_then (before_last 125) (option_and_then (behind_first 123) (behind_first 36 text)))

-- the place of the first parameter of this name
unfoldable pub place_named : List (List ℕ) → List ℕ → Option ℕ
place_named names name = option_and_then of_32_bits (position_from (λ n. bytes_eq n name) 0 names)

abbrev pub or_undeclared : List ℕ → Option ℕ → Result (Option ℕ) FilterDocFault
or_undeclared name None = Err (Undeclared name)
or_undeclared name (Some place) = Ok (Some place)

abbrev pub place_if : List (List ℕ) → Option (List ℕ) → Result (Option ℕ) FilterDocFault
place_if names None = Ok None
place_if names (Some name) = or_undeclared name (place_named names name)

-- The place of the parameter that a text stands for. A text stands for one only where parameters are listed.
unfoldable pub place_of : Option (List (List ℕ)) → List ℕ → Result (Option ℕ) FilterDocFault
place_of None text = Ok None
place_of (Some names) text = place_if names (name_in text)
