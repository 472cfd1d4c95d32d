-- The schema of the tests: one type, whose features have a size.
use Rattle.std.specs.Prelude.{◌≡◌, ◌<◌, false, codes, List, [], ◌∷◌, All}
use Rattle.feature_values.specs.declared.schema.ValueKind.TheVariants.{Whole as WholeKind}
use Rattle.feature_values.specs.declared.schema.Property.{Property}
use Rattle.feature_values.specs.declared.schema.FeatureType.{FeatureType}
use Rattle.feature_values.specs.declared.schema.Schema.{Schema}
use Rattle.fes_filter.specs.declared.filter.Filter.{Filter}
use Rattle.wfs_model.specs.OfSchema.{ids_in, places_in}

abbrev pub mark_properties : List Property
mark_properties = record { name = codes "size"; kind = WholeKind; required = false; max = 1 } ∷ []

abbrev pub mark_types : List FeatureType
mark_types = record { name = codes "Mark"; properties = mark_properties } ∷ []

abbrev pub AreMarks : Schema → Type 0
AreMarks schema = schema.types ≡ mark_types

-- a filter without parameters that names features of the first type
abbrev pub IsOne : Filter → Type 0
IsOne filter = All (λ id. id.kind < 1) (ids_in filter) × (places_in filter ≡ [])
