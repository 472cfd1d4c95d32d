-- The schema of the service's feature types as a document of XML Schema (OGC 09-025r2, section 9.3; OGC 07-036, section 21).
use Rattle.std.specs.Prelude.{ℕ, Bool, true, false, if◌then◌else◌, ◌==◌, List, [], ◌∷◌, length, codes, Option, Some, None, slice_get}
use Rattle.std.specs.List.{flat_map, list_any}
use Rattle.wfs_ends.specs.Ends.{joined}
use Rattle.doc_tree.specs.Escape.{escaped}
use Rattle.feature_values.specs.declared.schema.ValueKind.{ValueKind}
use Rattle.feature_values.specs.declared.schema.ValueKind.TheVariants.{Words, Whole, Truth, Point, Line, Polygon}
use Rattle.feature_values.specs.declared.schema.Property.{Property}
use Rattle.feature_values.specs.declared.schema.FeatureType.{FeatureType}
use Rattle.feature_values.specs.declared.schema.Schema.{Schema}
use Rattle.service_docs.specs.InTurn.{in_turn}

-- ---- properties

-- the type of the values of a kind, of XML Schema or of GML
abbrev pub kind_name : ValueKind → List ℕ
kind_name Words = codes "xs:string"
kind_name Whole = codes "xs:long"
kind_name Truth = codes "xs:boolean"
kind_name Point = codes "gml:PointPropertyType"
kind_name Line = codes "gml:CurvePropertyType"
kind_name Polygon = codes "gml:SurfacePropertyType"

-- a property that is not required may be absent
abbrev pub occurs_text : Bool → List ℕ
occurs_text true = []
occurs_text false = codes " minOccurs=\"0\""

unfoldable pub property_text : Property → List ℕ
property_text p = joined (
    codes "<xs:element name=\"" ∷ p.name ∷ codes "\" type=\"" ∷ kind_name p.kind ∷ codes "\"" ∷ occurs_text p.required ∷ codes "/>" ∷ [])

unfoldable pub some_properties_text : List Property → List ℕ
some_properties_text properties = joined (codes "<xs:sequence>" ∷ flat_map property_text properties ∷ codes "</xs:sequence>" ∷ [])

-- the properties of a type, in order
unfoldable pub properties_text : List Property → List ℕ
properties_text properties = if length properties == 0 then codes "<xs:sequence/>" else some_properties_text properties

-- ---- types

-- a type: the element of its features, and the type of this element
unfoldable pub type_text : Schema → FeatureType → List ℕ
type_text schema of_type = joined (
    codes "<xs:element name=\"" ∷ of_type.name ∷ codes "\" type=\"" ∷ schema.prefix ∷ codes ":" ∷ of_type.name
    ∷ codes "Type\" substitutionGroup=\"gml:AbstractFeature\"/><xs:complexType name=\"" ∷ of_type.name
    ∷ codes "Type\"><xs:complexContent><xs:extension base=\"gml:AbstractFeatureType\">" ∷ properties_text of_type.properties
    ∷ codes "</xs:extension></xs:complexContent></xs:complexType>" ∷ [])

abbrev pub type_if : Schema → Option FeatureType → List ℕ
type_if schema None = []
type_if schema (Some of_type) = type_text schema of_type

-- the type with this number; nothing where the schema has none
unfoldable pub numbered_text : Schema → ℕ → List ℕ
numbered_text schema number = type_if schema (slice_get schema.types number)

abbrev pub is_among : List ℕ → ℕ → Bool
is_among numbers number = list_any (λ n. n == number) numbers

-- a number that is none of those before it
abbrev pub new_number : List ℕ → ℕ → List ℕ
new_number before number = if is_among before number then [] else number ∷ []

-- numbers in their order, each at its first place alone
abbrev pub each_once : List ℕ → List ℕ
each_once numbers = in_turn new_number [] numbers

-- ---- the document

-- the namespace of the types, and the one of GML, whose schema is imported
unfoldable pub declared_text : Schema → List ℕ
declared_text schema = joined (
    codes "<?xml version=\"1.0\" encoding=\"UTF-8\"?><xs:schema xmlns:xs=\"http://www.w3.org/2001/XMLSchema\" xmlns:gml=\"http://www.opengis.net/gml/3.2\" xmlns:"
    ∷ schema.prefix ∷ codes "=\"" ∷ escaped true schema.space ∷ codes "\" targetNamespace=\"" ∷ escaped true schema.space
    ∷ codes "\" elementFormDefault=\"qualified\"><xs:import namespace=\"http://www.opengis.net/gml/3.2\" schemaLocation=\"http://schemas.opengis.net/gml/3.2.1/gml.xsd\"/>"
    ∷ [])

-- the schema of the types with these numbers, in the order asked and each once
unfoldable pub schema_document : Schema → List ℕ → List ℕ
schema_document schema types = joined (
    declared_text schema ∷ flat_map (numbered_text schema) (each_once types) ∷ codes "</xs:schema>" ∷ [])
