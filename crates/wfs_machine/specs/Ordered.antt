-- Changes of single features, laid over features in default order, and the features of a type.
use Rattle.std.specs.Prelude.{ℕ, Bool, false, ◌==◌, List, Option, Some, None, length, filter}
use Rattle.feature_values.specs.declared.feature.Feature.{Feature}
use Rattle.feature_values.specs.declared.feature.Rid.{Rid}
use Rattle.fes_filter.specs.View.{is_same}
use Rattle.feature_overlay.specs.Laid.{laid}
use Rattle.wfs_model.specs.declared.change.Part.{Part}
use Rattle.wfs_model.specs.declared.change.Part.TheVariants.{Put, Remove}
use Rattle.wfs_model.specs.State.{Durable}
use Rattle.wfs_model.specs.Played.{raised}

-- there is a feature, and it has the identifier
abbrev pub has_id : Rid → Option Feature → Bool
has_id id None = false
has_id id (Some f) = is_same f.id id

-- what a part leaves of features
abbrev pub part_laid : List Feature → Part → List Feature
part_laid features (Put f) = laid features f.id (Some f)
part_laid features (Remove id) = laid features id None

-- what a part leaves of the counters
abbrev pub counted : List ℕ → Part → List ℕ
counted counters (Put f) = raised counters f.id.kind f.id.number
counted counters (Remove id) = counters

-- what is kept, with these features and counters
abbrev pub with_rows : Durable → List Feature → List ℕ → Durable
with_rows kept features counters = record kept { features = features; counters = counters }

abbrev pub of_type : ℕ → Feature → Bool
of_type kind f = f.id.kind == kind

-- how many features of a type there are
abbrev pub count_of : ℕ → List Feature → ℕ
count_of kind features = length (filter (of_type kind) features)
