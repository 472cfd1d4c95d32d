-- Stored queries (OGC 09-025r2, section 14): the one that is built in, those that were made, and how they are made and dropped.
use Rattle.std.specs.Prelude.{ℕ, Bool, ◌||◌, not, if◌then◌else◌, List, [], ◌∷◌, ◌++◌, filter, codes, Option, Result, Ok, Err}
use Rattle.std.specs.List.{find, list_any}
use Rattle.std.specs.Str.{bytes_eq}
use Rattle.wfs_ends.specs.Read.{each}
use Rattle.wfs_model.specs.declared.stored.StoredQuery.{StoredQuery}
use Rattle.wfs_model.specs.declared.fault.StoredFault.{StoredFault}
use Rattle.wfs_model.specs.declared.fault.StoredFault.TheVariants.{DuplicateId, Unknown}

-- ---- the built-in query GetFeatureById (OGC 09-025r2, section 7.9.3.6)

abbrev pub id_query_urn : List ℕ
id_query_urn = codes "urn:ogc:def:query:OGC-WFS::GetFeatureById"

abbrev pub id_query_address : List ℕ
id_query_address = codes "http://www.opengis.net/def/query/OGC-WFS/0/GetFeatureById"

-- one of the two names of the built-in query
unfoldable pub is_id_query : List ℕ → Bool
is_id_query id = bytes_eq id id_query_urn || bytes_eq id id_query_address

-- the built-in query as it stands in replies; what it asks is said where it is used
abbrev pub built_in : StoredQuery
built_in = record { id = id_query_urn; title = []; parameters = codes "id" ∷ []; queries = []; text = [] }

-- ---- stored queries by their identifiers

abbrev pub has_id : List ℕ → StoredQuery → Bool
has_id id query = bytes_eq query.id id

-- the stored query with this identifier
abbrev pub stored_at : List StoredQuery → List ℕ → Option StoredQuery
stored_at stored id = find (has_id id) stored

abbrev pub is_there : List StoredQuery → List ℕ → Bool
is_there stored id = list_any (has_id id) stored

-- an identifier of the built-in query or of one that is there
abbrev pub is_known : List StoredQuery → List ℕ → Bool
is_known stored id = is_id_query id || is_there stored id

-- all stored queries, the built-in one first
abbrev pub all_stored : List StoredQuery → List StoredQuery
all_stored stored = built_in ∷ stored

-- ---- changes

-- one more stored query, whose identifier has to be new
unfoldable pub created_one : List StoredQuery → StoredQuery → Result (List StoredQuery) StoredFault
created_one stored query = if is_known stored query.id then Err (DuplicateId query.id) else Ok (stored ++ query ∷ [])

-- more stored queries, all or none: each identifier is that of no query before it, built in, there or of this request
unfoldable pub created : List StoredQuery → List StoredQuery → Result (List StoredQuery) StoredFault
created stored queries = each created_one stored queries

-- without the query with an identifier
abbrev pub without_query : List StoredQuery → List ℕ → List StoredQuery
without_query stored id = filter (λ query. not (has_id id query)) stored

-- a stored query is dropped, which has to be there
unfoldable pub dropped : List StoredQuery → List ℕ → Result (List StoredQuery) StoredFault
dropped stored id = if is_there stored id then Ok (without_query stored id) else Err (Unknown id)
