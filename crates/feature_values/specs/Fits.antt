-- Which features a schema allows, and what is wrong first with one that it does not.
use Rattle.std.specs.Prelude.{Bool, true, false, if◌then◌else◌, ◌==◌, List, ◌∷◌, length, Option, Some, None, Result, Ok, Err, slice_get}
use Rattle.wfs_ends.specs.Read.{◌>>=◌}
use Rattle.geom_core.specs.declared.geometry.Geometry.TheVariants.{At, Along, Over}
use Rattle.feature_values.specs.declared.schema.ValueKind.{ValueKind}
use Rattle.feature_values.specs.declared.schema.ValueKind.TheVariants.{Words as WordsKind, Whole as WholeKind, Truth as TruthKind, Point, Line, Polygon}
use Rattle.feature_values.specs.declared.schema.Property.{Property}
use Rattle.feature_values.specs.declared.schema.FeatureType.{FeatureType}
use Rattle.feature_values.specs.declared.schema.Schema.{Schema}
use Rattle.feature_values.specs.declared.value.Value.{Value}
use Rattle.feature_values.specs.declared.value.Value.TheVariants.{Null, Words, Whole, Truth, Shape}
use Rattle.feature_values.specs.declared.feature.Feature.{Feature}
use Rattle.feature_values.specs.declared.fault.ValueFault.{ValueFault}
use Rattle.feature_values.specs.declared.fault.ValueFault.TheVariants.{Unknown, Missing, BadValue, TooLong}
use Rattle.feature_values.specs.Reads.{is_too_long}

-- whether a value that is not null is of a kind
unfoldable pub is_of_kind : Value → ValueKind → Bool
is_of_kind (Words _) WordsKind = true
is_of_kind (Whole _) WholeKind = true
is_of_kind (Truth _) TruthKind = true
is_of_kind (Shape (At _)) Point = true
is_of_kind (Shape (Along _)) Line = true
is_of_kind (Shape (Over _)) Polygon = true
is_of_kind value kind = false

abbrev pub is_null : Value → Bool
is_null Null = true
is_null value = false

-- A value at its property: null where none is required, or else of the property's kind and no longer than it allows.
unfoldable pub value_fits : Property → Value → Result (Unit {0}) ValueFault
value_fits property value =
    if is_null value then (if property.required then Err Missing else Ok tt) else
    (if is_of_kind value property.kind then (if is_too_long value property.max then Err TooLong else Ok tt) else Err BadValue)

-- each value at its property, up to the first fault
unfoldable pub values_fit : List Property → List Value → Result (Unit {0}) ValueFault
values_fit (property ∷ properties) (value ∷ values) = value_fits property value >>= λ _. values_fit properties values
values_fit properties values = Ok tt

-- the values of a feature of this type: one per property, and each at its property
unfoldable pub type_fits : FeatureType → List Value → Result (Unit {0}) ValueFault
type_fits of_type values = if length of_type.properties == length values then values_fit of_type.properties values else Err Unknown

abbrev pub type_fits_if : Option FeatureType → List Value → Result (Unit {0}) ValueFault
type_fits_if None values = Err Unknown
type_fits_if (Some of_type) values = type_fits of_type values

-- a feature: its type is one of the schema, and its values are those of this type
unfoldable pub feature_fits : Schema → Feature → Result (Unit {0}) ValueFault
feature_fits schema feature = type_fits_if (slice_get schema.types feature.id.kind) feature.values
