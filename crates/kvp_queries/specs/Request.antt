-- The request that a query asks, or what is wrong first, in the order of judging: listed names that come twice, in the query's order;
-- the service; the operation; the version; the operation's parameters in the order in which it lists them; what is missing; and last
-- the property whose values are asked for.
use Rattle.std.specs.Prelude.{ℕ, Bool, not, ◌||◌, List, [], ◌∷◌, ◌++◌, Option, Some, None, is_some, Ok, Err, codes}
use Rattle.wfs_ends.specs.Read.{◌>>=◌, each, unless}
use Rattle.feature_values.specs.declared.schema.Schema.{Schema}
use Rattle.lock_table.specs.declared.id.LockId.{LockId}
use Rattle.wfs_model.specs.Terms.{refused}
use Rattle.wfs_model.specs.declared.request.Take.{Take}
use Rattle.wfs_model.specs.declared.request.Request.{Request}
use Rattle.wfs_model.specs.declared.request.Request.TheVariants.{Capabilities, DescribeTypes, GetFeatures, GetValues, GetLocked, Lock, Renew, ListStored, DescribeStored, DropStored}
use Rattle.request_parameters.specs.Said.{Said, Ask, required_of, kind_of}
use Rattle.request_parameters.specs.Base.{service_of, version_of, format_of, negotiated}
use Rattle.request_parameters.specs.Paging.{page_of, locked_page_of, presented}
use Rattle.request_parameters.specs.Locking.{take_of, lock_of, expiry_of, period_of}
use Rattle.request_parameters.specs.Operations.{name_of, queried_of}
use Rattle.request_parameters.specs.Stored.{dropped_of}
use Rattle.request_parameters.specs.declared.operation.Operation.{Operation}
use Rattle.request_parameters.specs.declared.operation.Operation.TheVariants.{GetCapabilities, DescribeFeatureType, GetPropertyValue, GetFeature, GetFeatureWithLock, LockFeature, Transaction, ListStoredQueries, DescribeStoredQueries, CreateStoredQuery, DropStoredQuery}
use Rattle.kvp_queries.specs.Pairs.{Pair, pairs_of, listed_of, said_by, link_of}
use Rattle.kvp_queries.specs.Lists.{items_if}
use Rattle.kvp_queries.specs.Selection.{type_names_of}
use Rattle.kvp_queries.specs.Asking.{query_of, stored_id, enough_of, asked_by, valued}

-- ---- the base of a request (section 7.6.2)

-- The version is agreed on by GetCapabilities, which says by itself which ones a client accepts.
abbrev pub version_for : Operation → Said → Ask (Unit {0})
version_for GetCapabilities said = Ok tt
version_for operation said = version_of said

unfoldable pub base_of : Said → Ask Operation
base_of said = do
  _ ← service_of said
  operation ← queried_of said
  _ ← version_for operation said
  Ok operation

-- ---- what the service has: GetCapabilities (section 8), DescribeFeatureType (9), stored queries (14)

unfoldable pub capabilities_of : Said → Ask Request
capabilities_of said = do
  _ ← negotiated (items_if (said (codes "acceptVersions")))
  Ok Capabilities

unfoldable pub next_type : Schema → List ℕ → List ℕ → Ask (List ℕ)
next_type schema kinds name = kind_of schema (codes "typeNames") name >>= λ kind. Ok (kinds ++ kind ∷ [])

-- types by name; none stands for all
unfoldable pub types_of : Schema → Said → Ask Request
types_of schema said = do
  kinds ← each (next_type schema) [] (items_if (type_names_of said))
  _ ← format_of (codes "outputFormat") said
  Ok (DescribeTypes kinds)

-- stored queries by their identifiers; none stands for all
unfoldable pub described_of : Said → Ask Request
described_of said = Ok (DescribeStored (items_if (stored_id said)))

unfoldable pub drop_of : Said → Ask Request
drop_of said = dropped_of (codes "storedQuery_id") said >>= λ id. Ok (DropStored id)

-- ---- features and values: GetFeature (section 11), GetPropertyValue (10)

unfoldable pub features_of : Schema → List Pair → Said → Ask Request
features_of schema pairs said = do
  page ← page_of said
  query ← query_of schema said
  _ ← enough_of said
  Ok (GetFeatures (presented page (Some (link_of schema.address pairs))) (asked_by GetFeature pairs said query ∷ []))

-- the name of the property whose values are asked for, where enough is named
unfoldable pub reference_of : Said → Ask (List ℕ)
reference_of said = do
  name ← required_of (codes "valueReference") said
  _ ← enough_of said
  Ok name

unfoldable pub values_of : Schema → List Pair → Said → Ask Request
values_of schema pairs said = do
  page ← page_of said
  query ← query_of schema said
  name ← required_of (codes "valueReference") said
  _ ← enough_of said
  asked ← valued schema pairs query name (stored_id said)
  Ok (GetValues (presented page (Some (link_of schema.address pairs))) asked.0 asked.1)

-- ---- locks: GetFeatureWithLock (section 13), LockFeature (12)

-- how long features are locked and which, where enough is named
unfoldable pub held_of : Said → Ask (ℕ × Take)
held_of said = do
  period ← period_of said
  take ← take_of said
  _ ← enough_of said
  Ok (period, take)

unfoldable pub locked_of : Schema → List Pair → Said → Ask Request
locked_of schema pairs said = do
  page ← locked_page_of said
  query ← query_of schema said
  period ← period_of said
  take ← take_of said
  _ ← enough_of said
  Ok (GetLocked (presented page None) (asked_by GetFeatureWithLock pairs said query ∷ []) take period)

-- how long a new lock lives, where enough is named
unfoldable pub new_period : Said → Ask ℕ
new_period said = enough_of said >>= λ _. period_of said

-- a new lock
unfoldable pub new_lock : Schema → List Pair → Said → Take → Ask Request
new_lock schema pairs said take = do
  query ← query_of schema said
  _ ← enough_of said
  period ← period_of said
  Ok (Lock (asked_by LockFeature pairs said query ∷ []) take period)

-- whether a request names features by a stored query, by a type or in a reference system
unfoldable pub names_features : Said → Bool
names_features said = is_some (stored_id said) || (is_some (type_names_of said) || is_some (said (codes "srsName")))

-- whether a request chooses among features
unfoldable pub chooses_features : Said → Bool
chooses_features said = is_some (said (codes "resourceId")) || (is_some (said (codes "filter")) || is_some (said (codes "bbox")))

-- whether a request asks for features
unfoldable pub asks_for_features : Said → Bool
asks_for_features said =
    names_features said || (chooses_features said || (is_some (said (codes "sortBy")) || is_some (said (codes "propertyName"))))

-- the lock that a client has lives longer: no features are asked for beside it (12.2.4.2)
unfoldable pub renewed : Said → LockId → Option ℕ → Ask Request
renewed said lock expiry = do
  _ ← unless (asks_for_features said) (refused 11 (codes "lockId"))
  Ok (Renew lock expiry)

abbrev pub lock_by : Schema → List Pair → Said → Option ℕ → Take → Option LockId → Ask Request
lock_by schema pairs said expiry take None = new_lock schema pairs said take
lock_by schema pairs said expiry take (Some lock) = renewed said lock expiry

unfoldable pub lock_asked : Schema → List Pair → Said → Ask Request
lock_asked schema pairs said = do
  lock ← lock_of said
  expiry ← expiry_of said
  take ← take_of said
  lock_by schema pairs said expiry take lock

-- ---- the request

-- the request of an operation; two of them do not come as queries
unfoldable pub request_of : Schema → List Pair → Said → Operation → Ask Request
request_of schema pairs said GetCapabilities = capabilities_of said
request_of schema pairs said DescribeFeatureType = types_of schema said
request_of schema pairs said GetPropertyValue = values_of schema pairs said
request_of schema pairs said GetFeature = features_of schema pairs said
request_of schema pairs said GetFeatureWithLock = locked_of schema pairs said
request_of schema pairs said LockFeature = lock_asked schema pairs said
request_of schema pairs said Transaction = Err (refused 9 (name_of Transaction))
request_of schema pairs said ListStoredQueries = Ok ListStored
request_of schema pairs said DescribeStoredQueries = described_of said
request_of schema pairs said CreateStoredQuery = Err (refused 9 (name_of CreateStoredQuery))
request_of schema pairs said DropStoredQuery = drop_of said

-- the request of pairs, of which these have listed names
unfoldable pub judged : Schema → List Pair → Said → Ask Request
judged schema pairs said = do
  operation ← base_of said
  request_of schema pairs said operation

-- the request that a query asks
unfoldable pub asked_of : List ℕ → Schema → Ask Request
asked_of query schema = do
  listed ← listed_of (pairs_of query)
  judged schema (pairs_of query) (said_by listed)
