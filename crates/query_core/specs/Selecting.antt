-- Which features a query selects (OGC 09-025r2, section 7.9.2), and what several queries select together. That a feature stands at
-- its first place only is this project's own.
use Rattle.std.specs.Prelude.{ℕ, Bool, true, ◌&&◌, not, ◌==◌, List, [], ◌∷◌, ◌++◌, map, filter, flat_map, Option, Some, None}
use Rattle.std.specs.List.{fold, list_any}
use Rattle.feature_values.specs.declared.feature.Feature.{Feature}
use Rattle.feature_values.specs.declared.feature.Rid.{Rid}
use Rattle.fes_filter.specs.declared.filter.Filter.{Filter}
use Rattle.fes_filter.specs.declared.query.Query.{Query}
use Rattle.fes_filter.specs.Truth.{truth_of}
use Rattle.fes_filter.specs.View.{is_same, feature_at}
use Rattle.query_core.specs.Sorting.{sorted}

-- a feature of the type, or of any where none is named
abbrev pub is_of_type : Option ℕ → Feature → Bool
is_of_type None f = true
is_of_type (Some kind) f = f.id.kind == kind

-- a feature of which the filter is true, or any where there is none
abbrev pub passes_filter : Option Filter → Feature → Bool
passes_filter None f = true
passes_filter (Some filter) f = truth_of f filter

unfoldable pub is_selected : Query → Feature → Bool
is_selected query f = is_of_type query.kind f && passes_filter query.filter f

-- the features that a query selects, in its order
unfoldable pub selected : List Feature → Query → List Feature
selected features query = sorted query.sort (filter (is_selected query) features)

abbrev pub ids_of : List Feature → List Rid
ids_of features = map (λ f. f.id) features

-- the identifiers of what a query selects
abbrev pub selected_ids : List Feature → Query → List Rid
selected_ids features query = ids_of (selected features query)

abbrev pub is_among : List Rid → Rid → Bool
is_among ids id = list_any (is_same id) ids

-- some identifiers, and behind them those of others that are not yet there
unfoldable pub joined : List Rid → List Rid → List Rid
joined ids more = ids ++ filter (λ id. not (is_among ids id)) more

-- what several queries select, in their order, each feature at its first place
unfoldable pub all_selected : List Feature → List Query → List Rid
all_selected features queries = fold (λ ids query. joined ids (selected_ids features query)) [] queries

abbrev pub to_list : {X : Type 0} → Option X → List X
to_list None = []
to_list (Some x) = x ∷ []

-- the features with these identifiers, in their order
unfoldable pub held : List Feature → List Rid → List Feature
held features ids = flat_map (λ id. to_list (feature_at id features)) ids
