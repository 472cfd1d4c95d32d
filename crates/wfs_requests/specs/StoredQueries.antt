-- ListStoredQueries, DescribeStoredQueries, CreateStoredQuery and DropStoredQuery (OGC 09-025r2, section 14).
use Rattle.std.specs.Prelude.{ℕ, ◌==◌, not, List, [], ◌∷◌, ◌++◌, length, codes, Ok}
use Rattle.wfs_ends.specs.Read.{◌>>=◌, each, unless}
use Rattle.doc_tree.specs.declared.tree.Element.{Element}
use Rattle.feature_values.specs.declared.schema.Schema.{Schema}
use Rattle.wfs_model.specs.declared.stored.StoredQuery.{StoredQuery}
use Rattle.wfs_model.specs.declared.request.Request.{Request}
use Rattle.wfs_model.specs.declared.request.Request.TheVariants.{ListStored, DescribeStored, CreateStored, DropStored}
use Rattle.query_docs.specs.Definitions.{definition_of}
use Rattle.request_parameters.specs.Said.{Ask}
use Rattle.request_parameters.specs.Stored.{dropped_of}
use Rattle.request_parameters.specs.Elements.{said_at, is_wfs, no_others, misplaced, no_children, text_in}
use Rattle.wfs_requests.specs.Base.{children_of, base_of, with_base}

-- a request without attributes of its own
unfoldable pub bare_of : Element → Ask (Unit {0})
bare_of e = do
  _ ← base_of e
  no_others (with_base []) e

-- ---- ListStoredQueries

unfoldable pub list_of : Element → Ask Request
list_of e = do
  _ ← bare_of e
  _ ← no_children (children_of e)
  Ok ListStored

-- ---- DescribeStoredQueries

-- a StoredQueryId
unfoldable pub next_id : List (List ℕ) → Element → Ask (List (List ℕ))
next_id found e = do
  _ ← unless (not (is_wfs (codes "StoredQueryId") e)) (misplaced e)
  _ ← no_others [] e
  id ← text_in e
  Ok (found ++ id ∷ [])

-- stored queries by their identifiers; none stands for all
unfoldable pub described_of : Element → Ask Request
described_of e = do
  _ ← bare_of e
  ids ← each next_id [] (children_of e)
  Ok (DescribeStored ids)

-- ---- CreateStoredQuery

unfoldable pub next_stored : Schema → List StoredQuery → Element → Ask (List StoredQuery)
next_stored schema found e = definition_of schema e >>= λ stored. Ok (found ++ stored ∷ [])

-- one definition or more
unfoldable pub created_of : Schema → Element → Ask Request
created_of schema e = do
  _ ← bare_of e
  queries ← each (next_stored schema) [] (children_of e)
  _ ← unless (length (children_of e) == 0) (misplaced e)
  Ok (CreateStored queries)

-- ---- DropStoredQuery

unfoldable pub drop_others : Element → Ask (Unit {0})
drop_others e = no_others (with_base (codes "id" ∷ [])) e

unfoldable pub drop_of : Element → Ask Request
drop_of e = do
  _ ← base_of e
  id ← dropped_of (codes "id") (said_at e)
  _ ← drop_others e
  _ ← no_children (children_of e)
  Ok (DropStored id)
