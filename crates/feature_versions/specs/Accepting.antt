-- Parts judged over features alone; what else is kept has no say.
use Rattle.std.specs.Prelude.{Bool, true, ◌&&◌, List, [], ◌∷◌, is_some}
use Rattle.feature_values.specs.declared.feature.Feature.{Feature}
use Rattle.feature_values.specs.declared.schema.Schema.{Schema}
use Rattle.feature_values.specs.Fits.{feature_fits}
use Rattle.fes_filter.specs.View.{feature_at}
use Rattle.wfs_model.specs.declared.change.Part.{Part}
use Rattle.wfs_model.specs.declared.change.Part.TheVariants.{Put, Remove}
use Rattle.wfs_model.specs.Playable.{is_ok, is_number}
use Rattle.feature_versions.specs.Types.{part_laid}

abbrev pub part_on : Schema → List Feature → Part → Bool
part_on schema features (Put f) = is_ok (feature_fits schema f) && is_number f.id.number
part_on schema features (Remove id) = is_some (feature_at id features)

abbrev pub parts_on : Schema → List Feature → List Part → Bool
parts_on schema features [] = true
parts_on schema features (part ∷ parts) = part_on schema features part && parts_on schema (part_laid features part) parts
