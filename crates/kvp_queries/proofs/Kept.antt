-- No request that comes as a query makes a stored one.
use Rattle.std.proofs.Common.{ℕ, List, [], Option, Some, None, Result, Ok, Err, refl}
use Rattle.std.specs.Prelude.{codes, All, IfOk}
use Rattle.wfs_ends.specs.Read.{GivesBut, each, unless}
use Rattle.feature_values.specs.declared.schema.Schema.{Schema}
use Rattle.lock_table.specs.declared.id.LockId.{LockId}
use Rattle.wfs_model.specs.declared.fault.AskFault.{AskFault}
use Rattle.wfs_model.specs.declared.fault.AskFault.TheVariants.{OutOfMemory}
use Rattle.wfs_model.specs.declared.request.Take.{Take}
use Rattle.wfs_model.specs.declared.request.Request.{Request}
use Rattle.wfs_model.specs.OfSchema.{stored_in}
use Rattle.request_parameters.specs.Said.{Said, required_of}
use Rattle.request_parameters.specs.Base.{format_of, negotiated}
use Rattle.request_parameters.specs.Paging.{page_of, locked_page_of}
use Rattle.request_parameters.specs.Locking.{take_of, lock_of, expiry_of, period_of}
use Rattle.request_parameters.specs.Stored.{dropped_of}
use Rattle.request_parameters.specs.declared.operation.Operation.{Operation}
use Rattle.request_parameters.specs.declared.operation.Operation.TheVariants as Op
use Rattle.query_docs.specs.Reading.{IsKeptText}
use Rattle.query_docs.proofs.Makes.{MakesNone, behind, is_none, none_kept}
use Rattle.kvp_queries.specs.Pairs.{Pair, pairs_of, listed_of, said_by}
use Rattle.kvp_queries.specs.Lists.{items_if}
use Rattle.kvp_queries.specs.Selection.{type_names_of}
use Rattle.kvp_queries.specs.Asking.{query_of, stored_id, enough_of, valued}
use Rattle.kvp_queries.specs.Request.{base_of, capabilities_of, next_type, types_of, described_of, drop_of, features_of, values_of, locked_of, new_lock, asks_for_features, renewed, lock_by, lock_asked, request_of, judged, asked_of}

module _ (schema : Schema) (pairs : List Pair) (said : Said) where
  capabilities : MakesNone (capabilities_of said)
  unfolding capabilities_of
  capabilities = behind (negotiated (items_if (said (codes "acceptVersions")))) _ (λ _. is_none _ refl)

  types : MakesNone (types_of schema said)
  unfolding types_of
  types = behind (each (next_type schema) [] (items_if (type_names_of said))) _ (λ kinds. behind (format_of (codes "outputFormat") said) _ (λ _. is_none _ refl))

  descriptions : MakesNone (described_of said)
  unfolding described_of
  descriptions = is_none _ refl

  drops : MakesNone (drop_of said)
  unfolding drop_of
  drops = behind (dropped_of (codes "storedQuery_id") said) _ (λ id. is_none _ refl)

  features : MakesNone (features_of schema pairs said)
  unfolding features_of
  features = behind (page_of said) _ (λ page. behind (query_of schema said) _ (λ query. behind (enough_of said) _ (λ _. is_none _ refl)))

  values : MakesNone (values_of schema pairs said)
  unfolding values_of
  values =
      behind (page_of said) _ (λ page. behind (query_of schema said) _ (λ query. behind (required_of (codes "valueReference") said) _ (λ name. behind (enough_of said) _ (λ _.
      behind (valued schema pairs query name (stored_id said)) _ (λ asked. is_none _ refl)))))

  locked : MakesNone (locked_of schema pairs said)
  unfolding locked_of
  locked = behind (locked_page_of said) _ (λ page. behind (query_of schema said) _ (λ query. behind (period_of said) _ (λ period. behind (take_of said) _ (λ take. behind (enough_of said) _ (λ _. is_none _ refl)))))

  lock_for : (expiry : Option ℕ) (take : Take) (lock : Option LockId) → MakesNone (lock_by schema pairs said expiry take lock)
  unfolding new_lock renewed
  lock_for expiry take None = behind (query_of schema said) _ (λ query. behind (enough_of said) _ (λ _. behind (period_of said) _ (λ period. is_none _ refl)))
  lock_for expiry take (Some lock) = behind (unless (asks_for_features said) _) _ (λ _. is_none _ refl)

  locks : MakesNone (lock_asked schema pairs said)
  unfolding lock_asked
  locks = behind (lock_of said) _ (λ lock. behind (expiry_of said) _ (λ expiry. behind (take_of said) _ (λ take. lock_for expiry take lock)))

  by_operation : (operation : Operation) → MakesNone (request_of schema pairs said operation)
  unfolding request_of
  by_operation Op.GetCapabilities = capabilities
  by_operation Op.DescribeFeatureType = types
  by_operation Op.GetPropertyValue = values
  by_operation Op.GetFeature = features
  by_operation Op.GetFeatureWithLock = locked
  by_operation Op.LockFeature = locks
  by_operation Op.Transaction = λ request h. absurd cc
  by_operation Op.ListStoredQueries = is_none _ refl
  by_operation Op.DescribeStoredQueries = descriptions
  by_operation Op.CreateStoredQuery = λ request h. absurd cc
  by_operation Op.DropStoredQuery = drops

  judged_none : MakesNone (judged schema pairs said)
  unfolding judged
  judged_none = behind (base_of said) _ by_operation

asked_none : (schema : Schema) (query : List ℕ) → MakesNone (asked_of query schema)
unfolding asked_of
asked_none schema query = behind (listed_of (pairs_of query)) _ (λ listed. judged_none schema (pairs_of query) (said_by listed))

pub read_kept : (schema : Schema) (query : List ℕ) (r : Result Request AskFault) → GivesBut OutOfMemory (λ x. x) r (asked_of query schema) → IfOk r (λ request. All (IsKeptText schema) (stored_in request))
read_kept schema query (Ok request) h = none_kept schema request (asked_none schema query request h)
read_kept schema query (Err fault) h = tt
