-- The signature of a schema: what of it the stored features depend on, as one line of text. It is this project's own.
use Rattle.std.specs.Prelude.{ℕ, List, [], ◌∷◌, ◌++◌, codes}
use Rattle.std.specs.List.{flat_map}
use Rattle.feature_values.specs.declared.schema.ValueKind.{ValueKind}
use Rattle.feature_values.specs.declared.schema.ValueKind.TheVariants.{Words, Whole, Truth, Point, Line, Polygon}
use Rattle.feature_values.specs.declared.schema.Property.{Property}
use Rattle.feature_values.specs.declared.schema.FeatureType.{FeatureType}
use Rattle.feature_values.specs.declared.schema.Schema.{Schema}
use Rattle.wfs_ends.specs.Ends.{joined}

-- the word of a kind, as in the schema file
abbrev pub kind_word : ValueKind → List ℕ
kind_word Words = codes "text"
kind_word Whole = codes "integer"
kind_word Truth = codes "boolean"
kind_word Point = codes "point"
kind_word Line = codes "line"
kind_word Polygon = codes "polygon"

-- a property: NAME:KIND
unfoldable pub property_text : Property → List ℕ
property_text property = joined (property.name ∷ codes ":" ∷ kind_word property.kind ∷ [])

-- a property behind another: ,NAME:KIND
unfoldable pub next_text : Property → List ℕ
next_text property = joined (codes "," ∷ property_text property ∷ [])

-- properties with commas between them
unfoldable pub properties_text : List Property → List ℕ
properties_text [] = []
properties_text (first ∷ rest) = property_text first ++ flat_map next_text rest

-- a type: NAME(PROPERTIES);
unfoldable pub type_text : FeatureType → List ℕ
type_text of_type = joined (of_type.name ∷ codes "(" ∷ properties_text of_type.properties ∷ codes ");" ∷ [])

-- a schema: its types in order
abbrev pub signature_text : Schema → List ℕ
signature_text schema = flat_map type_text schema.types
