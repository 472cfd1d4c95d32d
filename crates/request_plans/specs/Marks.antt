-- The schema of the tests: one type, whose features have a size; and three of them, under the numbers that were given.
use Rattle.std.specs.Prelude.{◌≡◌, ◌<◌, false, codes, List, [], ◌∷◌, All, flat_map}
use Rattle.feature_values.specs.declared.feature.Feature.{Feature}
use Rattle.feature_values.specs.declared.schema.ValueKind.TheVariants.{Whole as WholeKind}
use Rattle.feature_values.specs.declared.schema.Property.{Property}
use Rattle.feature_values.specs.declared.schema.FeatureType.{FeatureType}
use Rattle.feature_values.specs.declared.schema.Schema.{Schema}
use Rattle.fes_filter.specs.declared.filter.Filter.{Filter}
use Rattle.wfs_model.specs.declared.asked.Asked.{Asked}
use Rattle.wfs_model.specs.Kept.{IsKept}
use Rattle.wfs_model.specs.OfSchema.{ids_in, places_in, IsQueryOf, query_in, names_given}

abbrev pub mark_properties : List Property
mark_properties = record { name = codes "size"; kind = WholeKind; required = false; max = 1 } ∷ []

abbrev pub mark_types : List FeatureType
mark_types = record { name = codes "Mark"; properties = mark_properties } ∷ []

abbrev pub AreMarks : Schema → Type 0
AreMarks schema = schema.types ≡ mark_types

-- a filter without parameters that names features of the first type
abbrev pub IsOne : Filter → Type 0
IsOne filter = All (λ id. id.kind < 1) (ids_in filter) × (places_in filter ≡ [])

-- features that may be kept where three numbers were given, and no stored query was made
abbrev pub AreThree : Schema → List Feature → Type 0
AreThree schema features = IsKept schema (record { features = features; counters = 3 ∷ []; stored = []; opening = 1 })

-- what is asked by plain queries of the schema
pub record AreAsked (schema : Schema) (asked : List Asked) : Type 0 where
  pub queries : All (IsQueryOf schema 0) (flat_map query_in asked)
  pub names : flat_map names_given asked ≡ []
