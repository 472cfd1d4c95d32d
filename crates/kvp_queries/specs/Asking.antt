-- What a query asks for of the features (OGC 09-025r2, section 7.9): a query of its own, or the use of a stored one. Beside a stored
-- query the other parameters are judged all the same, and nothing is asked by them.
use Rattle.std.specs.Prelude.{ℕ, Bool, not, ◌||◌, List, [], ◌∷◌, Option, Some, None, is_some, Ok, Err, codes}
use Rattle.std.specs.Str.{bytes_eq}
use Rattle.wfs_ends.specs.Read.{◌>>=◌, unless}
use Rattle.feature_values.specs.declared.schema.Schema.{Schema}
use Rattle.fes_filter.specs.Check.{type_in, property_in}
use Rattle.fes_filter.specs.declared.query.Query.{Query}
use Rattle.fes_filter.specs.declared.query.SortKey.{SortKey}
use Rattle.wfs_model.specs.Terms.{refused}
use Rattle.wfs_model.specs.declared.asked.Asked.{Asked}
use Rattle.wfs_model.specs.declared.asked.Asked.TheVariants.{Plain, Stored}
use Rattle.request_parameters.specs.Said.{Said, Ask, or_fault, passing}
use Rattle.request_parameters.specs.Base.{srs_of}
use Rattle.request_parameters.specs.declared.operation.Operation.{Operation}
use Rattle.request_parameters.specs.declared.operation.Operation.TheVariants.{GetPropertyValue}
use Rattle.kvp_queries.specs.Pairs.{Pair, parameters_of}
use Rattle.kvp_queries.specs.Selection.{type_of, type_names_of, chosen}
use Rattle.kvp_queries.specs.Sorting.{keys_of}

-- features come with all their properties
unfoldable pub property_name_of : Said → Ask (Unit {0})
property_name_of said =
    passing (λ text. bytes_eq text (codes "*")) (refused 12 (codes "propertyName")) (said (codes "propertyName"))

-- the order of features, which come with all their properties
unfoldable pub sorted_of : Schema → Option ℕ → Said → Ask (List SortKey)
sorted_of schema kind said = do
  sort ← keys_of schema kind said
  _ ← property_name_of said
  Ok sort

-- a type, a choice among its features, and their order
unfoldable pub query_of : Schema → Said → Ask Query
query_of schema said = do
  kind ← type_of schema said
  _ ← srs_of schema.srs said
  filter ← chosen schema kind said
  sort ← keys_of schema kind said
  _ ← property_name_of said
  Ok (record { kind = kind; filter = filter; sort = sort })

-- the stored query that is used
abbrev pub stored_id : Said → Option (List ℕ)
stored_id said = said (codes "storedQuery_id")

-- A type has to be named, unless features are asked for by their ids or by a stored query.
unfoldable pub enough_of : Said → Ask (Unit {0})
enough_of said =
    unless (not (is_some (type_names_of said) || (is_some (said (codes "resourceId")) || is_some (stored_id said)))) (refused 10 (codes "typeNames"))

abbrev pub asked_with : Operation → List Pair → Query → Option (List ℕ) → Asked
asked_with operation pairs query None = Plain query
asked_with operation pairs query (Some id) = Stored id (parameters_of operation pairs)

-- what an operation asks for: the stored query with its parameters, where one is named, and else the query
unfoldable pub asked_by : Operation → List Pair → Said → Query → Asked
asked_by operation pairs said query = asked_with operation pairs query (stored_id said)

-- ---- values (section 10)

-- the property of a type by its name as given; without a type there is none
abbrev pub property_of : Schema → Option ℕ → List ℕ → Ask ℕ
property_of schema None name = Err (refused 11 (codes "valueReference"))
property_of schema (Some kind) name = or_fault (property_in (type_in schema (Some kind)) name) (refused 11 name) >>= λ p. Ok p.0

-- What has values, and the property whose values are asked for. A stored query has it among its parameters, under the empty name.
abbrev pub valued : Schema → List Pair → Query → List ℕ → Option (List ℕ) → Ask (Asked × ℕ)
valued schema pairs query name None = property_of schema query.kind name >>= λ property. Ok (Plain query, property)
valued schema pairs query name (Some id) = Ok (Stored id (([], name) ∷ parameters_of GetPropertyValue pairs), 0)
