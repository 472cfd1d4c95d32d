-- What is asked, where plain queries are borrowed.
use Rattle.std.specs.Prelude.{List, ◌++◌, map, Result, Ok}
use Rattle.std.specs.List.{fold}
use Rattle.wfs_ends.specs.Read.{◌>>=◌}
use Rattle.feature_values.specs.declared.feature.Feature.{Feature}
use Rattle.feature_values.specs.declared.feature.Rid.{Rid}
use Rattle.feature_values.specs.declared.schema.Schema.{Schema}
use Rattle.query_core.specs.Selecting.{all_selected, joined, selected_ids}
use Rattle.wfs_model.specs.declared.asked.Asked.{Asked}
use Rattle.wfs_model.specs.declared.stored.StoredQuery.{StoredQuery}
use Rattle.wfs_model.specs.declared.fault.StoredFault.{StoredFault}
use Rattle.wfs_model.specs.Expand.{all_expanded}
use Rattle.fes_filter.specs.declared.query.Query.{Query}
use Rattle.stored_queries.specs.declared.expanding.Meant.{Meant}
use Rattle.stored_queries.specs.declared.expanding.Meant.TheVariants.{Plain, Filled}

-- the query itself
abbrev pub meant_by : Meant → Query
meant_by (Plain query) = query.now
meant_by (Filled query) = query

abbrev pub all_meant : List Meant → List Query
all_meant queries = map meant_by queries

-- some queries, and behind them more, where there is no fault
abbrev pub with_more : List Query → Result (List Query) StoredFault → Result (List Query) StoredFault
with_more queries read = read >>= λ more. Ok (queries ++ more)

-- some identifiers, and behind them those of what queries select that are not yet there
abbrev pub selected_behind : List Feature → List Rid → List Query → List Rid
selected_behind features before queries = fold (λ ids query. joined ids (selected_ids features query)) before queries

-- the same, where the queries have no fault
abbrev pub with_selected : List Feature → List Rid → Result (List Query) StoredFault → Result (List Rid) StoredFault
with_selected features before read = read >>= λ queries. Ok (selected_behind features before queries)

-- what all that is asked selects, where there is no fault
unfoldable pub asked_selected : Schema → List StoredQuery → List Feature → List Asked → Result (List Rid) StoredFault
asked_selected schema stored features asked = all_expanded schema stored asked >>= λ queries. Ok (all_selected features queries)
