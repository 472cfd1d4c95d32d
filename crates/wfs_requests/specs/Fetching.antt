-- GetFeature, GetFeatureWithLock, LockFeature and GetPropertyValue (OGC 09-025r2, sections 10 to 13): what they ask for of the features
-- is told by query_docs.
use Rattle.std.specs.Prelude.{ℕ, ◌==◌, not, List, [], ◌∷◌, ◌++◌, length, codes, Option, Some, None, Ok, Err}
use Rattle.wfs_ends.specs.Read.{◌>>=◌, each, unless}
use Rattle.doc_tree.specs.declared.tree.Element.{Element}
use Rattle.feature_values.specs.declared.schema.Schema.{Schema}
use Rattle.lock_table.specs.declared.id.LockId.{LockId}
use Rattle.wfs_model.specs.declared.asked.Asked.{Asked}
use Rattle.wfs_model.specs.declared.asked.Asked.TheVariants.{Plain, Stored}
use Rattle.wfs_model.specs.declared.asked.Present.{Present}
use Rattle.wfs_model.specs.declared.request.Request.{Request}
use Rattle.wfs_model.specs.declared.request.Request.TheVariants.{GetFeatures, GetValues, GetLocked, Lock, Renew}
use Rattle.wfs_model.specs.declared.request.Take.{Take}
use Rattle.wfs_model.specs.Terms.{refused}
use Rattle.query_docs.specs.Asked.{asked_of}
use Rattle.request_parameters.specs.Said.{Ask, required_of}
use Rattle.request_parameters.specs.Paging.{page_of, locked_page_of, presented}
use Rattle.request_parameters.specs.Locking.{take_of, lock_of, expiry_of, period_of}
use Rattle.request_parameters.specs.Elements.{said_at, no_others, misplaced, no_children}
use Rattle.wfs_requests.specs.Base.{children_of, base_of, with_base}
use Rattle.wfs_requests.specs.Changes.{property_of}

-- the attributes of a page, and others
abbrev pub with_page : List (List ℕ) → List (List ℕ)
with_page names =
    with_base (codes "count" ∷ codes "startIndex" ∷ codes "resultType" ∷ codes "outputFormat" ∷ codes "resolve" ∷ names)

-- ---- what is asked

unfoldable pub next_asked : Schema → List Asked → Element → Ask (List Asked)
next_asked schema found e = asked_of schema e >>= λ asked. Ok (found ++ asked ∷ [])

-- one query or more
unfoldable pub all_asked : Schema → Element → Ask (List Asked)
all_asked schema e = do
  asked ← each (next_asked schema) [] (children_of e)
  _ ← unless (length (children_of e) == 0) (misplaced e)
  Ok asked

-- ---- GetFeature

unfoldable pub features_others : Element → Ask (Unit {0})
features_others e = no_others (with_page []) e

unfoldable pub features_of : Schema → Element → Ask Request
features_of schema e = do
  _ ← base_of e
  page ← page_of (said_at e)
  _ ← features_others e
  asked ← all_asked schema e
  Ok (GetFeatures (presented page None) asked)

-- ---- GetFeatureWithLock

unfoldable pub locked_others : Element → Ask (Unit {0})
locked_others e = no_others (with_page (codes "expiry" ∷ codes "lockAction" ∷ [])) e

unfoldable pub locked_of : Schema → Element → Ask Request
locked_of schema e = do
  _ ← base_of e
  page ← locked_page_of (said_at e)
  period ← period_of (said_at e)
  take ← take_of (said_at e)
  _ ← locked_others e
  asked ← all_asked schema e
  Ok (GetLocked (presented page None) asked take period)

-- ---- LockFeature

unfoldable pub lock_others : Element → Ask (Unit {0})
lock_others e = no_others (with_base (codes "lockId" ∷ codes "expiry" ∷ codes "lockAction" ∷ [])) e

-- a new lock
unfoldable pub new_lock : Schema → Element → Take → Ask Request
new_lock schema e take = do
  asked ← all_asked schema e
  period ← period_of (said_at e)
  Ok (Lock asked take period)

-- a new deadline for a lock, whose features stay the same (12.2.4.2)
unfoldable pub renewal : Element → LockId → Option ℕ → Ask Request
renewal e lock expiry = do
  _ ← unless (not (length (children_of e) == 0)) (refused 11 (codes "lockId"))
  Ok (Renew lock expiry)

abbrev pub lock_for : Schema → Element → Option ℕ → Take → Option LockId → Ask Request
lock_for schema e expiry take None = new_lock schema e take
lock_for schema e expiry take (Some lock) = renewal e lock expiry

unfoldable pub lock_request : Schema → Element → Ask Request
lock_request schema e = do
  _ ← base_of e
  lock ← lock_of (said_at e)
  expiry ← expiry_of (said_at e)
  take ← take_of (said_at e)
  _ ← lock_others e
  lock_for schema e expiry take lock

-- ---- GetPropertyValue

-- the one query
abbrev pub only_asked : Schema → Element → List Element → Ask Asked
only_asked schema whole [] = Err (misplaced whole)
only_asked schema whole (e ∷ rest) = do
  asked ← asked_of schema e
  _ ← no_children rest
  Ok asked

-- The property is looked up in the type of the query. A stored query says of which type its features are when it is used, so its
-- property has no number yet, and the name is kept for then, under the name that no parameter has.
abbrev pub place_asked : Schema → List ℕ → Asked → Ask ℕ
place_asked schema name (Plain query) = property_of schema query.kind name
place_asked schema name (Stored id given) = Ok 0

abbrev pub with_name : List ℕ → Asked → Asked
with_name name (Plain query) = Plain query
with_name name (Stored id given) = Stored id (given ++ ([], name) ∷ [])

unfoldable pub values_asked : Schema → Present → List ℕ → Asked → Ask Request
values_asked schema present name asked = place_asked schema name asked >>= λ place. Ok (GetValues present (with_name name asked) place)

unfoldable pub values_others : Element → Ask (Unit {0})
values_others e = no_others (with_page (codes "valueReference" ∷ [])) e

unfoldable pub values_request : Schema → Element → Ask Request
values_request schema e = do
  _ ← base_of e
  page ← page_of (said_at e)
  name ← required_of (codes "valueReference") (said_at e)
  _ ← values_others e
  asked ← only_asked schema e (children_of e)
  values_asked schema (presented page None) name asked
