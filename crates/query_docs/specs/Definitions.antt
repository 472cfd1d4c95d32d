-- Definitions of stored queries (OGC 09-025r2, section 14.2): an identifier, a title, the names of parameters, and queries in which
-- these stand. The parts come in any order, and a name may be declared behind the queries that use it.
use Rattle.std.specs.Prelude.{ℕ, ◌==◌, Bool, ◌||◌, not, if◌then◌else◌, List, [], ◌∷◌, ◌++◌, length, flat_map, codes, Some, None, unwrap_or, Ok, Err}
use Rattle.std.specs.List.{list_any}
use Rattle.std.specs.Option.{is_some, option_to_list}
use Rattle.std.specs.Str.{bytes_eq}
use Rattle.wfs_ends.specs.Read.{◌>>=◌, each, unless}
use Rattle.doc_tree.specs.declared.tree.Element.{Element}
use Rattle.feature_values.specs.declared.schema.Schema.{Schema}
use Rattle.fes_filter.specs.declared.query.Query.{Query}
use Rattle.wfs_model.specs.declared.stored.StoredQuery.{StoredQuery}
use Rattle.wfs_model.specs.Expand.{is_same_name}
use Rattle.wfs_model.specs.Terms.{refused}
use Rattle.request_parameters.specs.Said.{Ask, or_fault, required_of, passing}
use Rattle.request_parameters.specs.Elements.{said_at, is_wfs, no_others, misplaced, no_children}
use Rattle.query_docs.specs.Elements.{children_of, text_alone}
use Rattle.query_docs.specs.Queries.{query_of}
use Rattle.query_docs.specs.Asked.{name_of}
use Rattle.query_docs.specs.Texts.{stored_text}
use Rattle.query_docs.specs.declared.definition.Parts.{Parts}

-- ---- the queries

-- the language of queries, of which there is one with two names
unfoldable pub is_language : List ℕ → Bool
is_language text =
    bytes_eq text (codes "urn:ogc:def:queryLanguage:OGC-WFS::WFS_QueryExpression")
    || bytes_eq text (codes "urn:ogc:def:queryLanguage:OGC-WFS::WFSQueryExpression")

unfoldable pub language_of : Element → Ask (Unit {0})
language_of e = passing is_language (refused 12 (codes "language")) (said_at e (codes "language"))

unfoldable pub expression_others : Element → Ask (Unit {0})
expression_others e = no_others (codes "returnFeatureTypes" ∷ codes "language" ∷ codes "isPrivate" ∷ []) e

unfoldable pub next_query : List (List ℕ) → Schema → List Query → Element → Ask (List Query)
next_query names schema found e = do
  _ ← unless (not (is_wfs (codes "Query") e)) (misplaced e)
  query ← query_of (Some names) schema e
  Ok (found ++ query ∷ [])

-- a QueryExpressionText: one Query or more, in which the parameters of these names may stand
unfoldable pub queries_of : List (List ℕ) → Schema → Element → Ask (List Query)
queries_of names schema e = do
  _ ← language_of e
  _ ← expression_others e
  queries ← each (next_query names schema) [] (children_of e)
  _ ← unless (length (children_of e) == 0) (misplaced e)
  Ok queries

-- ---- the parts

abbrev pub no_parts : Parts
no_parts = record { title = None; names = []; queries = None }

-- a Title, of which there is one
unfoldable pub with_title : Parts → Element → Ask Parts
with_title found e = do
  _ ← unless (is_some found.title) (misplaced e)
  title ← text_alone e
  Ok (record { title = Some title; names = found.names; queries = found.queries })

-- a name is declared, in any case
unfoldable pub is_declared : List (List ℕ) → List ℕ → Bool
is_declared names name = list_any (λ n. is_same_name n name) names

-- a Parameter; what type it has is not judged
unfoldable pub with_name : Parts → Element → Ask Parts
with_name found e = do
  name ← name_of e
  _ ← no_others (codes "name" ∷ codes "type" ∷ []) e
  _ ← unless (is_declared found.names name) (refused 22 name)
  _ ← no_children (children_of e)
  Ok (record { title = found.title; names = found.names ++ name ∷ []; queries = found.queries })

-- a QueryExpressionText, of which there is one
unfoldable pub with_queries : List (List ℕ) → Schema → Parts → Element → Ask Parts
with_queries names schema found e = do
  _ ← unless (is_some found.queries) (misplaced e)
  queries ← queries_of names schema e
  Ok (record { title = found.title; names = found.names; queries = Some queries })

-- the parts with one more; an Abstract is passed over
unfoldable pub next_part : List (List ℕ) → Schema → Parts → Element → Ask Parts
next_part names schema found e =
    if is_wfs (codes "Title") e then with_title found e else
    (if is_wfs (codes "Abstract") e then Ok found else
    (if is_wfs (codes "Parameter") e then with_name found e else
    (if is_wfs (codes "QueryExpressionText") e then with_queries names schema found e else Err (misplaced e))))

-- ---- the whole

-- the name that an element declares
unfoldable pub declared_by : Element → List (List ℕ)
declared_by e = if is_wfs (codes "Parameter") e then option_to_list (said_at e (codes "name")) else []

-- all names that elements declare
abbrev pub declared_in : List Element → List (List ℕ)
declared_in es = flat_map declared_by es

-- a stored query of these parts, with the canonical text of its queries
abbrev pub stored_of : Schema → List ℕ → Parts → List Query → StoredQuery
stored_of schema id parts queries =
    record { id = id; title = unwrap_or parts.title []; parameters = parts.names; queries = queries; text = stored_text schema parts.names queries }

unfoldable pub definition_others : Element → Ask (Unit {0})
definition_others e = no_others (codes "id" ∷ []) e

-- a StoredQueryDefinition
unfoldable pub definition_of : Schema → Element → Ask StoredQuery
definition_of schema e = do
  _ ← unless (not (is_wfs (codes "StoredQueryDefinition") e)) (misplaced e)
  id ← required_of (codes "id") (said_at e)
  _ ← definition_others e
  parts ← each (next_part (declared_in (children_of e)) schema) no_parts (children_of e)
  queries ← or_fault parts.queries (misplaced e)
  Ok (stored_of schema id parts queries)
