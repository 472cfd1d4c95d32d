-- The kinds that the places of a parameter ask for in a filter.
use Rattle.std.specs.Prelude.{ℕ, List, Option}
use Rattle.feature_values.specs.declared.schema.ValueKind.{ValueKind}
use Rattle.feature_values.specs.declared.schema.FeatureType.{FeatureType}
use Rattle.fes_filter.specs.declared.filter.Filter.{Filter}
use Rattle.fes_filter.specs.declared.filter.Filter.TheFolds.{fold-Filter}
use Rattle.wfs_model.specs.Filled.{kinds_step}

abbrev pub kinds_of : Option FeatureType → ℕ → Filter → List (Option ValueKind)
kinds_of of_type place = fold-Filter (List (Option ValueKind)) (kinds_step of_type place)
