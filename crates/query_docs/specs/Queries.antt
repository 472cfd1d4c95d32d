-- Queries: the features of a type of which a filter is true, in an order (OGC 09-025r2, section 7.9.2).
use Rattle.std.specs.Prelude.{ℕ, Bool, not, ◌||◌, if◌then◌else◌, List, [], ◌∷◌, drop, codes, Option, Some, None, Ok, Err}
use Rattle.std.specs.List.{list_any, prefix_len}
use Rattle.std.specs.Option.{is_some}
use Rattle.wfs_ends.specs.Read.{◌>>=◌, each, unless}
use Rattle.doc_tree.specs.declared.tree.Element.{Element}
use Rattle.gml_docs.specs.Numbers.{is_space}
use Rattle.feature_values.specs.declared.schema.Schema.{Schema}
use Rattle.fes_filter.specs.Check.{type_in}
use Rattle.fes_filter.specs.declared.query.Query.{Query}
use Rattle.fes_filter.specs.declared.query.SortKey.{SortKey}
use Rattle.fes_docs.specs.Names.{is_fes}
use Rattle.fes_docs.specs.Filters.{filter_of}
use Rattle.wfs_model.specs.Terms.{refused}
use Rattle.request_parameters.specs.Said.{Ask, required_of, kind_of}
use Rattle.request_parameters.specs.Base.{srs_of}
use Rattle.request_parameters.specs.Elements.{said_at, is_wfs, no_others, misplaced}
use Rattle.query_docs.specs.Elements.{children_of, not_offered, or_refusal}
use Rattle.query_docs.specs.Sorting.{keys_of}
use Rattle.query_docs.specs.declared.query.Clauses.{Clauses}

-- ---- attributes

-- a text behind the bytes that stand first in it and pass a test
abbrev pub behind : (ℕ → Bool) → List ℕ → List ℕ
behind test text = drop (prefix_len test text) text

abbrev pub is_inner : ℕ → Bool
is_inner b = not (is_space b)

-- several names stand there: a word, white space, and another word
unfoldable pub is_several : List ℕ → Bool
is_several text = list_any is_inner (behind is_inner (behind is_space text))

-- the one type whose features are asked for; joins of several are not offered
unfoldable pub type_of : Schema → Element → Ask ℕ
type_of schema e = do
  names ← required_of (codes "typeNames") (said_at e)
  _ ← unless (is_several names) (refused 12 (codes "typeNames"))
  kind_of schema (codes "typeNames") names

abbrev pub query_names : List (List ℕ)
query_names = codes "typeNames" ∷ codes "srsName" ∷ codes "handle" ∷ codes "aliases" ∷ codes "featureVersion" ∷ []

unfoldable pub query_others : Element → Ask (Unit {0})
query_others e = no_others query_names e

-- ---- clauses

-- no clause so far
abbrev pub no_clauses : Clauses
no_clauses = record { filter = None; sort = None }

-- A Filter: it is the first of the clauses. The texts in it may stand for parameters where some are listed.
unfoldable pub with_filter : Option (List (List ℕ)) → Schema → Option ℕ → Clauses → Element → Ask Clauses
with_filter parameters schema kind found e = do
  _ ← unless (is_some found.filter || is_some found.sort) (misplaced e)
  filter ← or_refusal (filter_of parameters schema kind e)
  Ok (record { filter = Some filter; sort = found.sort })

-- a SortBy, of which there is one
unfoldable pub with_sort : Schema → Option ℕ → Clauses → Element → Ask Clauses
with_sort schema kind found e = do
  _ ← unless (is_some found.sort) (misplaced e)
  keys ← keys_of (type_in schema kind) e
  Ok (record { filter = found.filter; sort = Some keys })

-- the clauses with one more; the service offers no projection of properties
unfoldable pub next_clause : Option (List (List ℕ)) → Schema → Option ℕ → Clauses → Element → Ask Clauses
next_clause parameters schema kind found e =
    if is_wfs (codes "PropertyName") e then Err (refused 12 (codes "PropertyName")) else
    (if is_fes (codes "Filter") e then with_filter parameters schema kind found e else
    (if is_fes (codes "SortBy") e then with_sort schema kind found e else Err (misplaced e)))

abbrev pub or_no_keys : Option (List SortKey) → List SortKey
or_no_keys None = []
or_no_keys (Some keys) = keys

-- ---- the whole

-- A Query: its type, and then at most one Filter and at most one SortBy behind it. Its handle is any text.
unfoldable pub query_of : Option (List (List ℕ)) → Schema → Element → Ask Query
query_of parameters schema e = do
  kind ← type_of schema e
  _ ← srs_of schema.srs (said_at e)
  _ ← not_offered (codes "aliases") (said_at e (codes "aliases"))
  _ ← not_offered (codes "featureVersion") (said_at e (codes "featureVersion"))
  _ ← query_others e
  clauses ← each (next_clause parameters schema (Some kind)) no_clauses (children_of e)
  Ok (record { kind = Some kind; filter = clauses.filter; sort = or_no_keys clauses.sort })
