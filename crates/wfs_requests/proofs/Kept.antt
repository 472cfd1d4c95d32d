-- The stored queries that are made keep texts that read back.
use Rattle.std.proofs.Common.{◌≡◌, ℕ, ◌≤◌, ◌++◌, pred, not, List, [], ◌∷◌, length, Option, Some, None, Ok, Err, refl, subst, arith}
use Rattle.std.specs.Prelude.{codes, ◌==◌, All, IfOk, unwrap_or}
use Rattle.std.proofs.lemmas.List.Elements.{All-nil, All-push}
use Rattle.wfs_ends.specs.Read.{GivesBut, each, unless}
use Rattle.wfs_ends.proofs.Turns.{bind_ok, ok_is}
use Rattle.doc_tree.specs.declared.tree.Element.{Element}
use Rattle.doc_laws.specs.InDocument.{IsInDocument}
use Rattle.doc_laws.proofs.Sizes.{FitAll, parts, split}
use Rattle.feature_values.specs.declared.schema.Schema.{Schema}
use Rattle.feature_schema.specs.Rules.{KeepsRules}
use Rattle.lock_table.specs.declared.id.LockId.{LockId}
use Rattle.wfs_model.specs.declared.fault.AskFault.{AskFault}
use Rattle.wfs_model.specs.declared.fault.AskFault.TheVariants.{OutOfMemory}
use Rattle.wfs_model.specs.declared.request.Request.{Request}
use Rattle.wfs_model.specs.declared.request.Request.TheVariants.{CreateStored}
use Rattle.wfs_model.specs.declared.request.Take.{Take}
use Rattle.wfs_model.specs.declared.stored.StoredQuery.{StoredQuery}
use Rattle.wfs_model.specs.OfSchema.{stored_in}
use Rattle.request_parameters.specs.Said.{Ask, required_of}
use Rattle.request_parameters.specs.Base.{srs_of, format_of, negotiated}
use Rattle.request_parameters.specs.Paging.{page_of, locked_page_of}
use Rattle.request_parameters.specs.Locking.{take_of, lock_of, release_of, expiry_of, period_of}
use Rattle.request_parameters.specs.Stored.{dropped_of}
use Rattle.request_parameters.specs.Elements.{said_at, misplaced, no_children}
use Rattle.request_parameters.specs.declared.operation.Operation.{Operation}
use Rattle.request_parameters.specs.declared.operation.Operation.TheVariants.{GetCapabilities, DescribeFeatureType, GetPropertyValue, GetFeature, GetFeatureWithLock, LockFeature, Transaction, ListStoredQueries, DescribeStoredQueries, CreateStoredQuery, DropStoredQuery}
use Rattle.query_docs.specs.Definitions.{definition_of}
use Rattle.query_docs.specs.Reading.{IsKeptText}
use Rattle.query_docs.proofs.Kept.{definition_kept}
use Rattle.query_docs.proofs.Makes.{MakesNone, behind, is_none, none_kept}
use Rattle.wfs_requests.specs.Base.{children_of, base_of}
use Rattle.wfs_requests.specs.Capabilities.{capabilities_others, next_accepted, capabilities_of}
use Rattle.wfs_requests.specs.Describing.{next_type, types_others, types_of}
use Rattle.wfs_requests.specs.Fetching.{all_asked, features_others, features_of, locked_others, locked_of, lock_others, new_lock, renewal, lock_for, lock_request, only_asked, place_asked, values_asked, values_others, values_request}
use Rattle.wfs_requests.specs.StoredQueries.{bare_of, list_of, next_id, described_of, next_stored, created_of, drop_others, drop_of}
use Rattle.wfs_requests.specs.Transactions.{next_action, transaction_others, transaction_of}
use Rattle.wfs_requests.specs.Requests.{root_of, request_by, request_of}

-- ---- requests that make no stored query

capabilities : (e : Element) → MakesNone (capabilities_of e)
unfolding capabilities_of
capabilities e = behind (base_of e) _ (λ _. behind (capabilities_others e) _ (λ _. behind (each next_accepted None (children_of e)) _ (λ found. behind (negotiated (unwrap_or found [])) _ (λ _. is_none _ refl))))

types : (schema : Schema) (e : Element) → MakesNone (types_of schema e)
unfolding types_of
types schema e = behind (base_of e) _ (λ _. behind (format_of (codes "outputFormat") (said_at e)) _ (λ _. behind (types_others e) _ (λ _. behind (each (next_type schema) [] (children_of e)) _ (λ kinds. is_none _ refl))))

features : (schema : Schema) (e : Element) → MakesNone (features_of schema e)
unfolding features_of
features schema e = behind (base_of e) _ (λ _. behind (page_of (said_at e)) _ (λ page. behind (features_others e) _ (λ _. behind (all_asked schema e) _ (λ asked. is_none _ refl))))

locked : (schema : Schema) (e : Element) → MakesNone (locked_of schema e)
unfolding locked_of
locked schema e =
    behind (base_of e) _ (λ _. behind (locked_page_of (said_at e)) _ (λ page. behind (period_of (said_at e)) _ (λ period. behind (take_of (said_at e)) _ (λ take. behind (locked_others e) _ (λ _.
    behind (all_asked schema e) _ (λ asked. is_none _ refl))))))

new : (schema : Schema) (e : Element) (take : Take) → MakesNone (new_lock schema e take)
unfolding new_lock
new schema e take = behind (all_asked schema e) _ (λ asked. behind (period_of (said_at e)) _ (λ period. is_none _ refl))

renewed : (e : Element) (lock : LockId) (expiry : Option ℕ) → MakesNone (renewal e lock expiry)
unfolding renewal
renewed e lock expiry = behind (unless (not (length (children_of e) == 0)) _) _ (λ _. is_none _ refl)

lock_by : (schema : Schema) (e : Element) (expiry : Option ℕ) (take : Take) (lock : Option LockId) → MakesNone (lock_for schema e expiry take lock)
lock_by schema e expiry take None = new schema e take
lock_by schema e expiry take (Some lock) = renewed e lock expiry

locks : (schema : Schema) (e : Element) → MakesNone (lock_request schema e)
unfolding lock_request
locks schema e =
    behind (base_of e) _ (λ _. behind (lock_of (said_at e)) _ (λ lock. behind (expiry_of (said_at e)) _ (λ expiry. behind (take_of (said_at e)) _ (λ take. behind (lock_others e) _ (λ _. lock_by schema e expiry take lock)))))

values : (schema : Schema) (e : Element) → MakesNone (values_request schema e)
unfolding values_request values_asked
values schema e =
    behind (base_of e) _ (λ _. behind (page_of (said_at e)) _ (λ page. behind (required_of (codes "valueReference") (said_at e)) _ (λ name. behind (values_others e) _ (λ _.
    behind (only_asked schema e (children_of e)) _ (λ asked. behind (place_asked schema name asked) _ (λ place. is_none _ refl))))))

transactions : (schema : Schema) (e : Element) → MakesNone (transaction_of schema e)
unfolding transaction_of
transactions schema e =
    behind (base_of e) _ (λ _. behind (lock_of (said_at e)) _ (λ lock. behind (release_of (said_at e)) _ (λ release. behind (srs_of schema.srs (said_at e)) _ (λ _. behind (transaction_others e) _ (λ _.
    behind (each (next_action schema) [] (children_of e)) _ (λ actions. is_none _ refl))))))

lists : (e : Element) → MakesNone (list_of e)
unfolding list_of
lists e = behind (bare_of e) _ (λ _. behind (no_children (children_of e)) _ (λ _. is_none _ refl))

descriptions : (e : Element) → MakesNone (described_of e)
unfolding described_of
descriptions e = behind (bare_of e) _ (λ _. behind (each next_id [] (children_of e)) _ (λ ids. is_none _ refl))

drops : (e : Element) → MakesNone (drop_of e)
unfolding drop_of
drops e = behind (base_of e) _ (λ _. behind (dropped_of (codes "id") (said_at e)) _ (λ id. behind (drop_others e) _ (λ _. behind (no_children (children_of e)) _ (λ _. is_none _ refl))))

-- ---- definitions

module _ (schema : Schema) (keeps : KeepsRules schema) where
  abbrev Kept : List StoredQuery → Type 0
  Kept = All (IsKeptText schema)

  stored_kept : (d n : ℕ) (es : List Element) (acc all : List StoredQuery) → d ≤ 32 → n ≤ 100000 → Kept acc → each (next_stored schema) acc es ≡ Ok all → FitAll d n es → Kept all
  unfolding each next_stored
  stored_kept d n [] acc all deep many so_far h fit = subst Kept (ok_is AskFault acc all h) so_far
  stored_kept d n (e ∷ es) acc all deep many so_far h fit =
      let x = bind_ok (next_stored schema acc e) (λ more. each (next_stored schema) more es) all h in
      let stored = bind_ok (definition_of schema e) (λ stored. Ok (acc ++ stored ∷ [])) x.0 x.1 in
      let s = split d n e es fit in
      let is : IsInDocument e = record { texts = s.one.texts; deep = omega (arith, s.one.deep, deep); many = omega (arith, s.one.many, s.total, many) } in
      let more = subst Kept (ok_is AskFault (acc ++ stored.0 ∷ []) x.0 stored.2) (All-push (IsKeptText schema) acc stored.0 so_far (definition_kept schema e stored.0 keeps is stored.1)) in
      stored_kept d s.there es x.0 all deep (omega (arith, many, s.total)) more x.2 s.rest

  created : (e : Element) (request : Request) → IsInDocument e → created_of schema e ≡ Ok request → Kept (stored_in request)
  unfolding created_of
  created e request fit h =
      let bare = bind_ok (bare_of e) _ request h in
      let queries = bind_ok (each (next_stored schema) [] (children_of e)) _ request bare.2 in
      let some = bind_ok (unless (length (children_of e) == 0) (misplaced e)) (λ _. Ok (CreateStored queries.0)) request queries.2 in
      let inside = parts 32 100000 e (record { texts = fit.texts; deep = fit.deep; many = fit.many }) in
      subst (λ (r : Request). Kept (stored_in r)) (ok_is AskFault (CreateStored queries.0) request some.2)
      (stored_kept (pred 32) (pred 100000) (children_of e) [] queries.0 (omega arith) (omega arith) (All-nil (IsKeptText schema)) queries.1 inside.kids)

  by_operation : (e : Element) (operation : Operation) (request : Request) → IsInDocument e → request_by schema e operation ≡ Ok request → Kept (stored_in request)
  by_operation e GetCapabilities request fit h = none_kept schema request (capabilities e request h)
  by_operation e DescribeFeatureType request fit h = none_kept schema request (types schema e request h)
  by_operation e GetPropertyValue request fit h = none_kept schema request (values schema e request h)
  by_operation e GetFeature request fit h = none_kept schema request (features schema e request h)
  by_operation e GetFeatureWithLock request fit h = none_kept schema request (locked schema e request h)
  by_operation e LockFeature request fit h = none_kept schema request (locks schema e request h)
  by_operation e Transaction request fit h = none_kept schema request (transactions schema e request h)
  by_operation e ListStoredQueries request fit h = none_kept schema request (lists e request h)
  by_operation e DescribeStoredQueries request fit h = none_kept schema request (descriptions e request h)
  by_operation e CreateStoredQuery request fit h = created e request fit h
  by_operation e DropStoredQuery request fit h = none_kept schema request (drops e request h)

pub request_kept : (schema : Schema) (e : Element) (r : Ask Request) → KeepsRules schema → IsInDocument e → GivesBut OutOfMemory (λ request. request) r (request_of e schema) → IfOk r (λ request. All (IsKeptText schema) (stored_in request))
unfolding request_of
request_kept schema e (Ok request) keeps fit h =
    let operation = bind_ok (root_of e) (request_by schema e) request h in
    by_operation schema keeps e operation.0 request fit operation.2
request_kept schema e (Err fault) keeps fit h = tt
