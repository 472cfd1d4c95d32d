-- Which requests a schema allows: each type, property and value in them is one of the schema's, and filters are such as the types allow. The
-- readers of requests give no others.
use Rattle.std.specs.Prelude.{◌≡◌, ℕ, ◌<◌, ◌≤◌, false, List, [], ◌∷◌, ◌++◌, length, map, filter, flat_map, All, Option, Some, None, Result, Ok, Err, slice_get, ⊤}
use Rattle.std.specs.List.{AllPairs}
use Rattle.std.specs.Option.{option_and_then, option_to_list, IfSome}
use Rattle.feature_values.specs.declared.value.Value.{Value}
use Rattle.feature_values.specs.declared.feature.Feature.{Feature}
use Rattle.feature_values.specs.declared.feature.Rid.{Rid}
use Rattle.feature_values.specs.declared.schema.Property.{Property as SchemaProperty}
use Rattle.feature_values.specs.declared.schema.Schema.{Schema}
use Rattle.feature_values.specs.declared.fault.ValueFault.{ValueFault}
use Rattle.feature_values.specs.declared.fault.ValueFault.TheVariants.{Unknown}
use Rattle.feature_values.specs.Fits.{value_fits, feature_fits}
use Rattle.fes_filter.specs.declared.expr.Expr.{Expr}
use Rattle.fes_filter.specs.declared.expr.Expr.TheVariants.{Property, Literal, Parameter}
use Rattle.fes_filter.specs.declared.ids.IdRef.{IdRef}
use Rattle.fes_filter.specs.declared.ids.IdRef.TheVariants.{Known, Nobody, Parameter as IdParameter}
use Rattle.fes_filter.specs.declared.filter.Filter.{Filter}
use Rattle.fes_filter.specs.declared.filter.Filter.TheOpen.{Filter-F}
use Rattle.fes_filter.specs.declared.filter.Filter.TheFolds.{fold-Filter}
use Rattle.fes_filter.specs.declared.query.Query.{Query}
use Rattle.fes_filter.specs.declared.query.SortKey.{SortKey}
use Rattle.fes_filter.specs.Check.{type_in, is_shape, check_of}
use Rattle.wfs_model.specs.declared.action.Action.{Action}
use Rattle.wfs_model.specs.declared.action.Action.TheVariants.{Insert, Update, Replace, Delete}
use Rattle.wfs_model.specs.declared.asked.Asked.{Asked}
use Rattle.wfs_model.specs.declared.asked.Asked.TheVariants.{Plain, Stored as StoredAsked}
use Rattle.wfs_model.specs.declared.stored.StoredQuery.{StoredQuery}
use Rattle.wfs_model.specs.declared.request.Request.{Request}
use Rattle.wfs_model.specs.declared.request.Request.TheVariants.{DescribeTypes, GetFeatures, GetValues, GetLocked, Lock, Renew, Transact, CreateStored, DropStored}
use Rattle.wfs_model.specs.Stored.{is_id_query}
use Rattle.wfs_model.specs.Expand.{is_same_name}

-- the number of a type
abbrev pub IsType : Schema → ℕ → Type 0
IsType schema kind = kind < length schema.types

-- the property of a type, by their numbers
abbrev pub property_at : Schema → Option ℕ → ℕ → Option SchemaProperty
property_at schema kind property = option_and_then (λ of_type. slice_get of_type.properties property) (type_in schema kind)

-- ---- filters

abbrev pub place_of : Expr → List ℕ
place_of (Property property) = []
place_of (Literal value) = []
place_of (Parameter place) = place ∷ []

abbrev pub id_place : IdRef → List ℕ
id_place (Known id) = []
id_place Nobody = []
id_place (IdParameter place) = place ∷ []

abbrev pub known_id : IdRef → List Rid
known_id (Known id) = id ∷ []
known_id Nobody = []
known_id (IdParameter place) = []

abbrev pub places_step : Filter-F (List ℕ) → List ℕ
places_step (Filter-F.Both parts) = flat_map (λ part. part) parts
places_step (Filter-F.Either parts) = flat_map (λ part. part) parts
places_step (Filter-F.Not part) = part
places_step (Filter-F.Compare by left right fold) = place_of left ++ place_of right
places_step (Filter-F.Between property low high) = place_of low ++ place_of high
places_step (Filter-F.Ids ids) = flat_map id_place ids
places_step operator = []

-- the parameters that stand in a filter
abbrev pub places_in : Filter → List ℕ
places_in = fold-Filter (List ℕ) places_step

abbrev pub ids_step : Filter-F (List Rid) → List Rid
ids_step (Filter-F.Both parts) = flat_map (λ part. part) parts
ids_step (Filter-F.Either parts) = flat_map (λ part. part) parts
ids_step (Filter-F.Not part) = part
ids_step (Filter-F.Ids ids) = flat_map known_id ids
ids_step operator = []

-- the features that a filter names
abbrev pub ids_in : Filter → List Rid
ids_in = fold-Filter (List Rid) ids_step

-- a filter for a type, or for none, in which parameters of so many stand
pub record IsFilterOf (schema : Schema) (kind : Option ℕ) (parameters : ℕ) (filter : Filter) : Type 0 where
  pub checked : check_of schema kind filter ≡ Ok tt
  pub ids : All (λ id. IsType schema id.kind) (ids_in filter)
  pub places : All (λ place. place < parameters) (places_in filter)

-- ---- queries

-- a sort key names a property of the type that is no geometry
abbrev pub IsSortKeyOf : Schema → Option ℕ → SortKey → Type 0
IsSortKeyOf schema kind key = (property : SchemaProperty) × (property_at schema kind key.property ≡ Some property) × (is_shape property.kind ≡ false)

-- a query in which parameters of so many stand
pub record IsQueryOf (schema : Schema) (parameters : ℕ) (query : Query) : Type 0 where
  pub kind : All (IsType schema) (option_to_list query.kind)
  pub filter : IfSome query.filter (IsFilterOf schema query.kind parameters)
  pub sort : All (IsSortKeyOf schema query.kind) query.sort

-- a stored query, whose parameters have names, no two of them equal but for their case
pub record IsStoredOf (schema : Schema) (stored : StoredQuery) : Type 0 where
  pub queries : All (IsQueryOf schema (length stored.parameters)) stored.queries
  pub names : All (λ name. 0 < length name) stored.parameters
  pub different : AllPairs (λ a b. is_same_name a b ≡ false) stored.parameters

-- ---- actions

-- a feature that comes in
pub record IsNewOf (schema : Schema) (feature : Feature) : Type 0 where
  pub fits : feature_fits schema feature ≡ Ok tt
  pub number : feature.id.number ≡ 0

abbrev pub set_fits : Option SchemaProperty → Value → Result (Unit {0}) ValueFault
set_fits None value = Err Unknown
set_fits (Some property) value = value_fits property value

-- a value that is set fits its property
abbrev pub IsSetOf : Schema → ℕ → ℕ × Value → Type 0
IsSetOf schema kind set = set_fits (property_at schema (Some kind) set.0) set.1 ≡ Ok tt

abbrev pub IsActionOf : Schema → Action → Type 0
IsActionOf schema (Insert handle features) = All (IsNewOf schema) features
IsActionOf schema (Update handle kind sets filter) =
    IsType schema kind × All (IsSetOf schema kind) sets × IfSome filter (IsFilterOf schema (Some kind) 0)
IsActionOf schema (Replace handle feature filter) = IsNewOf schema feature × IsFilterOf schema (Some feature.id.kind) 0 filter
IsActionOf schema (Delete kind filter) = IsType schema kind × IsFilterOf schema (Some kind) 0 filter

-- ---- what stands in requests

-- the types that are named by themselves
abbrev pub types_in : Request → List ℕ
types_in (DescribeTypes kinds) = kinds
types_in request = []

abbrev pub asked_in : Request → List Asked
asked_in (GetFeatures present asked) = asked
asked_in (GetLocked present asked take period) = asked
asked_in (Lock asked take period) = asked
asked_in (GetValues present asked property) = asked ∷ []
asked_in request = []

abbrev pub query_in : Asked → List Query
query_in (Plain query) = query ∷ []
query_in (StoredAsked id given) = []

-- the queries that no stored query stands for
abbrev pub queries_in : Request → List Query
queries_in request = flat_map query_in (asked_in request)

abbrev pub names_given : Asked → List (List ℕ)
names_given (Plain query) = []
names_given (StoredAsked id given) = map (λ g. g.0) given

-- the names of parameters; a request for values keeps its property's name under the empty one
abbrev pub names_in : Request → List (List ℕ)
names_in (GetValues present asked property) = []
names_in request = flat_map names_given (asked_in request)

abbrev pub actions_in : Request → List Action
actions_in (Transact lock release actions) = actions
actions_in request = []

abbrev pub stored_in : Request → List StoredQuery
stored_in (CreateStored queries) = queries
stored_in request = []

abbrev pub periods_in : Request → List ℕ
periods_in (GetLocked present asked take period) = period ∷ []
periods_in (Lock asked take period) = period ∷ []
periods_in (Renew lock period) = option_to_list period
periods_in request = []

abbrev pub dropped_in : Request → List (List ℕ)
dropped_in (DropStored id) = id ∷ []
dropped_in request = []

-- the property whose values are asked for is one of the query's type
abbrev pub AreValuesOf : Schema → Request → Type 0
AreValuesOf schema (GetValues present (Plain query) property) = (p : SchemaProperty) × (property_at schema query.kind property ≡ Some p)
AreValuesOf schema request = ⊤

-- ---- requests

pub record IsOfSchema (schema : Schema) (request : Request) : Type 0 where
  pub types : All (IsType schema) (types_in request)
  pub queries : All (IsQueryOf schema 0) (queries_in request)
  pub names : All (λ name. 0 < length name) (names_in request)
  pub values : AreValuesOf schema request
  pub actions : All (IsActionOf schema) (actions_in request)
  pub stored : All (IsStoredOf schema) (stored_in request)
  pub periods : All (λ period. 1 ≤ period) (periods_in request)
  pub kept : All (λ id. is_id_query id ≡ false) (dropped_in request)
