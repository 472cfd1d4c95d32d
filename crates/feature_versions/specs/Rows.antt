-- The rows of one type: under each number that was used a feature, or nothing where it is gone.
use Rattle.std.specs.Prelude.{◌≡◌, ℕ, ◌<◌, Bool, false, ◌==◌, List, [], ◌∷◌, take, flat_map, All, Option, Some, None, ⊤}
use Rattle.std.specs.Option.{option_to_list, option_and_then, IfSome}
use Rattle.feature_values.specs.declared.feature.Feature.{Feature}
use Rattle.feature_versions.specs.declared.rows.Row.{Row}

-- the feature of a row, where there is one
abbrev pub live_in : Row → List Feature
live_in row = option_to_list row.feature

-- the features of rows, in order
abbrev pub live : List Row → List Feature
live rows = flat_map live_in rows

-- the first so many rows have no feature
abbrev pub AreGone : ℕ → List Row → Type 0
AreGone n rows = live (take n rows) ≡ []

-- each row has a number below those of all that follow it
abbrev pub IsRising : List Row → Type 0
IsRising [] = ⊤
IsRising (row ∷ rows) = All (λ other. row.number < other.number) rows × IsRising rows

-- the feature of a row is of the type, and has the row's number
abbrev pub IsOwn : ℕ → Row → Type 0
IsOwn kind row = IfSome row.feature (λ f. f.id ≡ record { kind = kind; number = row.number })

-- rows of a type
pub record AreRows (kind : ℕ) (rows : List Row) : Type 0 where
  pub rising : IsRising rows
  pub own : All (IsOwn kind) rows

-- there is a row, and it has the number
abbrev pub has_number : ℕ → Option Row → Bool
has_number number None = false
has_number number (Some row) = row.number == number

-- the feature of a row that there may be
abbrev pub feature_of : Option Row → Option Feature
feature_of row = option_and_then (λ (r : Row). r.feature) row
