-- A feature as an element (OGC 07-036, sections 9.3 and 9.4): its properties in the order of its type, where they are not null.
use Rattle.std.specs.Prelude.{ℕ, Bool, true, false, not, ◌==◌, if◌then◌else◌, List, [], ◌∷◌, length, take, min, codes, decimal, Option, Some, None, slice_get}
use Rattle.std.specs.List.{flat_map, list_any, zip}
use Rattle.std.specs.Fmt.{signed_decimal}
use Rattle.wfs_ends.specs.Ends.{joined}
use Rattle.doc_tree.specs.Escape.{escaped}
use Rattle.feature_values.specs.declared.schema.Property.{Property}
use Rattle.feature_values.specs.declared.schema.FeatureType.{FeatureType}
use Rattle.feature_values.specs.declared.schema.Schema.{Schema}
use Rattle.feature_values.specs.declared.value.Value.{Value}
use Rattle.feature_values.specs.declared.value.Value.TheVariants.{Null, Words, Whole, Truth, Shape}
use Rattle.feature_values.specs.declared.feature.Feature.{Feature}
use Rattle.feature_values.specs.Fits.{is_null}
use Rattle.gml_docs.specs.Printed.{id_text, geometry_text}

-- ---- names

unfoldable pub start_tag : List ℕ → List ℕ → List ℕ
start_tag prefix name = joined (codes "<" ∷ prefix ∷ codes ":" ∷ name ∷ codes ">" ∷ [])

unfoldable pub end_tag : List ℕ → List ℕ → List ℕ
end_tag prefix name = joined (codes "</" ∷ prefix ∷ codes ":" ∷ name ∷ codes ">" ∷ [])

unfoldable pub empty_tag : List ℕ → List ℕ → List ℕ
empty_tag prefix name = joined (codes "<" ∷ prefix ∷ codes ":" ∷ name ∷ codes "/>" ∷ [])

-- the identifier of a feature of a type: the type's name and the feature's number, with a dot between them
unfoldable pub rid_text : FeatureType → ℕ → List ℕ
rid_text of_type number = joined (escaped true of_type.name ∷ codes "." ∷ decimal number ∷ [])

-- the reference system that is written: the first
abbrev pub first_name : List (List ℕ) → List ℕ
first_name [] = []
first_name (name ∷ names) = name

-- ---- values

abbrev pub truth_text : Bool → List ℕ
truth_text true = codes "true"
truth_text false = codes "false"

-- a value of a property, of the feature with this number
unfoldable pub value_text : Schema → FeatureType → ℕ → Property → Value → List ℕ
value_text schema of_type number property Null = []
value_text schema of_type number property (Words text) = escaped false text
value_text schema of_type number property (Whole whole) = signed_decimal whole
value_text schema of_type number property (Truth truth) = truth_text truth
value_text schema of_type number property (Shape shape) = geometry_text shape (id_text of_type.name number property.name) (first_name schema.srs)

-- a text without characters
abbrev pub is_blank : Value → Bool
is_blank (Words text) = length text == 0
is_blank value = false

unfoldable pub valued_text : Schema → FeatureType → ℕ → Property → Value → List ℕ
valued_text schema of_type number property value = joined (
    start_tag schema.prefix property.name ∷ value_text schema of_type number property value ∷ end_tag schema.prefix property.name ∷ [])

-- a property with its value; nothing for null
unfoldable pub property_text : Schema → FeatureType → ℕ → Property × Value → List ℕ
property_text schema of_type number (property, value) =
    if is_null value then [] else
    (if is_blank value then empty_tag schema.prefix property.name else valued_text schema of_type number property value)

-- each property with its value, up to the end of the shorter list
abbrev pub properties_text : Schema → FeatureType → ℕ → List Value → List ℕ
properties_text schema of_type number values = flat_map (property_text schema of_type number) (zip of_type.properties values)

-- whether a property has a value that is not null
abbrev pub has_value : List Property → List Value → Bool
has_value properties values = list_any (λ v. not (is_null v)) (take (min (length properties) (length values)) values)

-- ---- features

unfoldable pub filled_text : Schema → FeatureType → ℕ → List Value → List ℕ
filled_text schema of_type number values = joined (
    codes ">" ∷ properties_text schema of_type number values ∷ end_tag schema.prefix of_type.name ∷ [])

-- what follows the attribute of a feature's element
unfoldable pub inside_text : Schema → FeatureType → ℕ → List Value → List ℕ
inside_text schema of_type number values =
    if has_value of_type.properties values then filled_text schema of_type number values else codes "/>"

unfoldable pub feature_text : Schema → FeatureType → Feature → List ℕ
feature_text schema of_type f = joined (
    codes "<" ∷ schema.prefix ∷ codes ":" ∷ of_type.name ∷ codes " gml:id=\"" ∷ rid_text of_type f.id.number ∷ codes "\""
    ∷ inside_text schema of_type f.id.number f.values ∷ [])

-- the whole document of a feature by itself, with the namespaces at its element
unfoldable pub bare_text : Schema → FeatureType → Feature → List ℕ
bare_text schema of_type f = joined (
    codes "<?xml version=\"1.0\" encoding=\"UTF-8\"?><" ∷ schema.prefix ∷ codes ":" ∷ of_type.name
    ∷ codes " xmlns:gml=\"http://www.opengis.net/gml/3.2\" xmlns:" ∷ schema.prefix ∷ codes "=\"" ∷ escaped true schema.space
    ∷ codes "\" gml:id=\"" ∷ rid_text of_type f.id.number ∷ codes "\"" ∷ inside_text schema of_type f.id.number f.values ∷ [])

-- the type with this number
abbrev pub type_of : Schema → ℕ → Option FeatureType
type_of schema number = slice_get schema.types number

abbrev pub bare_if : Schema → Option FeatureType → Feature → List ℕ
bare_if schema None f = []
bare_if schema (Some of_type) f = bare_text schema of_type f

-- a feature by itself (OGC 09-025r2, section 7.9.3.6); nothing where its type is not in the schema
unfoldable pub bare_body : Schema → Feature → List ℕ
bare_body schema f = bare_if schema (type_of schema f.id.kind) f
