-- How many steps a query takes at most: how often its filter is put to a feature.
use Rattle.std.specs.Prelude.{ℕ, suc, zero, ◌+◌, List, length, filter, min, Option, Some, None}
use Rattle.geom_core.specs.Plane.{Bounds}
use Rattle.feature_values.specs.declared.feature.Feature.{Feature}
use Rattle.feature_values.specs.declared.schema.Schema.{Schema}
use Rattle.fes_filter.specs.declared.ids.IdRef.{IdRef}
use Rattle.fes_filter.specs.declared.query.Query.{Query}
use Rattle.query_core.specs.Finding.{ids_asked, box_asked, known_ids}
use Rattle.query_core.specs.Selecting.{is_of_type}

-- the sum of a number of each of the first types
abbrev pub sum_below : (ℕ → ℕ) → ℕ → ℕ
sum_below count zero = 0
sum_below count (suc kind) = sum_below count kind + count kind

-- the number of a type, or where none is named the sum over all types of the schema
abbrev pub over_types : (ℕ → ℕ) → Schema → Option ℕ → ℕ
over_types count schema None = sum_below count (length schema.types)
over_types count schema (Some kind) = count kind

-- the same by the box and the identifiers that are asked
abbrev pub most_by : (ℕ → Bounds → ℕ) → Schema → List Feature → Option ℕ → Option Bounds → Option (List IdRef) → ℕ
most_by most_near schema features kind None None = length (filter (is_of_type kind) features)
most_by most_near schema features kind None (Some ids) = length (known_ids ids)
most_by most_near schema features kind (Some area) None = over_types (λ k. most_near k area) schema kind
most_by most_near schema features kind (Some area) (Some ids) = min (length (known_ids ids)) (over_types (λ k. most_near k area) schema kind)

-- One for each feature of its types. Where it asks for identifiers, one for each of these instead, and where it asks for a box, one for
-- each that the view gives near the box, of its types; where it asks for both, the lesser number.
unfoldable pub most_steps : (ℕ → Bounds → ℕ) → Schema → List Feature → Query → ℕ
most_steps most_near schema features query = most_by most_near schema features query.kind (box_asked query.filter) (ids_asked query.filter)
