-- The queries that what is asked stands for, where stored queries are there (OGC 09-025r2, section 7.9.3). The order of the faults, and that
-- names of parameters match whatever their case is, is this project's own.
use Rattle.std.specs.Prelude.{ℕ, Bool, ◌&&◌, ◌==◌, not, if◌then◌else◌, List, [], ◌∷◌, ◌++◌, map, length, Option, Some, None, option_map, Result, Ok, Err}
use Rattle.std.specs.List.{find, list_any}
use Rattle.std.specs.Str.{str_eq_ignore_ascii_case}
use Rattle.wfs_ends.specs.Read.{◌>>=◌, each}
use Rattle.feature_values.specs.declared.schema.Schema.{Schema}
use Rattle.feature_values.specs.declared.feature.Rid.{Rid}
use Rattle.feature_values.specs.Ids.{rid_of}
use Rattle.fes_filter.specs.declared.ids.IdRef.TheVariants.{Known, Nobody}
use Rattle.fes_filter.specs.declared.filter.Filter.TheVariants.{Ids}
use Rattle.fes_filter.specs.declared.query.Query.{Query}
use Rattle.wfs_model.specs.declared.asked.Asked.{Asked}
use Rattle.wfs_model.specs.declared.asked.Asked.TheVariants.{Plain, Stored}
use Rattle.wfs_model.specs.declared.stored.StoredQuery.{StoredQuery}
use Rattle.wfs_model.specs.declared.fault.StoredFault.{StoredFault}
use Rattle.wfs_model.specs.declared.fault.StoredFault.TheVariants.{Unknown, MissingParameter, BadParameter}
use Rattle.wfs_model.specs.Stored.{is_id_query, built_in, stored_at}
use Rattle.wfs_model.specs.Filled.{is_readable, filled}

-- the name of a parameter and its value
abbrev pub Given : Type 0
Given = List ℕ × List ℕ

-- two names of parameters are the same, whatever the case of their letters is
abbrev pub is_same_name : List ℕ → List ℕ → Bool
is_same_name a b = str_eq_ignore_ascii_case a b

-- the first value that is given under a name
unfoldable pub given_for : List Given → List ℕ → Option (List ℕ)
given_for given name = option_map (λ g. g.1) (find (λ g. is_same_name g.0 name) given)

-- ---- declared parameters

-- the value of the parameter of this name, which has the place behind those whose values are here
abbrev pub with_text : Schema → List Query → List (List ℕ) → List ℕ → Option (List ℕ) → Result (List (List ℕ)) StoredFault
with_text schema queries texts name None = Err (MissingParameter name)
with_text schema queries texts name (Some text) =
    if is_readable schema queries (length texts) text then Ok (texts ++ text ∷ []) else Err (BadParameter name)

-- ---- parameters that are not declared

-- A name that is given under which nothing is declared. Under the empty name stands no parameter, but the property whose values are asked for.
abbrev pub is_stray : List (List ℕ) → Given → Bool
is_stray names g = not (length g.0 == 0) && not (list_any (is_same_name g.0) names)

abbrev pub no_stray : Option Given → Result (Unit {0}) StoredFault
no_stray None = Ok tt
no_stray (Some g) = Err (BadParameter g.0)

-- ---- uses of stored queries

-- The values of a stored query's parameters, by place. First the declared ones are judged, in order: each has to be given, and to read at
-- all its places. Then the first that is given and not declared is refused.
unfoldable pub texts_for : Schema → StoredQuery → List Given → Result (List (List ℕ)) StoredFault
texts_for schema query given =
    each (λ texts name. with_text schema query.queries texts name (given_for given name)) [] query.parameters >>= λ texts.
    no_stray (find (is_stray query.parameters) given) >>= λ _. Ok texts

-- the query of a feature by its identifier: it names the identifier's type, and no type where the text is no identifier
abbrev pub query_by : Option Rid → Query
query_by None = record { kind = None; filter = Some (Ids (Nobody ∷ [])); sort = [] }
query_by (Some id) = record { kind = Some id.kind; filter = Some (Ids (Known id ∷ [])); sort = [] }

abbrev pub query_by_id : Schema → List ℕ → Query
query_by_id schema text = query_by (rid_of schema text)

-- a use of the built-in query
unfoldable pub id_query_used : Schema → List Given → Result (List Query) StoredFault
id_query_used schema given = texts_for schema built_in given >>= λ texts. Ok (map (query_by_id schema) texts)

-- a use of the stored query that was found under an identifier
unfoldable pub stored_used : Schema → List ℕ → List Given → Option StoredQuery → Result (List Query) StoredFault
stored_used schema id given None = Err (Unknown id)
stored_used schema id given (Some query) = texts_for schema query given >>= λ texts. Ok (map (filled schema texts) query.queries)

-- the queries that one that is asked stands for
unfoldable pub expanded : Schema → List StoredQuery → Asked → Result (List Query) StoredFault
expanded schema stored (Plain query) = Ok (query ∷ [])
expanded schema stored (Stored id given) = if is_id_query id then id_query_used schema given else stored_used schema id given (stored_at stored id)

-- the queries that all that is asked stands for, in order, up to the first fault
unfoldable pub all_expanded : Schema → List StoredQuery → List Asked → Result (List Query) StoredFault
all_expanded schema stored asked = each (λ queries one. expanded schema stored one >>= λ more. Ok (queries ++ more)) [] asked
