-- Features with changes laid over them.
use Rattle.std.specs.Prelude.{ℕ, List, [], ◌∷◌, ◌++◌, filter, Option}
use Rattle.std.specs.Option.{option_to_list}
use Rattle.feature_values.specs.declared.feature.Feature.{Feature}
use Rattle.feature_values.specs.declared.feature.Rid.{Rid}
use Rattle.fes_filter.specs.View.{is_before}

-- the features before an identifier, what stands under it now, and the features behind it
unfoldable pub laid : List Feature → Rid → Option Feature → List Feature
laid features id now = filter (λ f. is_before f.id id) features ++ (option_to_list now ++ filter (λ f. is_before id f.id) features)

-- a change: under a key, which is the number of a type and that of a feature, the feature that stands there now, or none any more
abbrev pub Change : Type 0
Change = (ℕ × ℕ) × Option Feature

abbrev pub id_of : ℕ × ℕ → Rid
id_of key = record { kind = key.0; number = key.1 }

-- the changes, each under a key of its own, laid over the features one by one
abbrev pub all_laid : List Feature → List Change → List Feature
all_laid features [] = features
all_laid features (change ∷ changes) = laid (all_laid features changes) (id_of change.0) change.1
