-- Which filters a feature type allows, and what is wrong first with one that it does not.
use Rattle.std.specs.Prelude.{ℕ, Bool, true, false, ◌&&◌, ◌||◌, not, if◌then◌else◌, ◌==◌, ◌-◌, List, [], ◌∷◌, flat_map, Option, Some, None, option_map, Result, Ok, Err, slice_get}
use Rattle.std.specs.Option.{option_and_then}
use Rattle.wfs_ends.specs.Read.{◌>>=◌, each}
use Rattle.feature_values.specs.Fits.{is_of_kind}
use Rattle.feature_values.specs.Ids.{property_named, without_prefix}
use Rattle.feature_values.specs.declared.schema.ValueKind.{ValueKind}
use Rattle.feature_values.specs.declared.schema.ValueKind.TheVariants.{Words, Whole, Truth, Point, Line, Polygon}
use Rattle.feature_values.specs.declared.schema.Property.{Property as SchemaProperty}
use Rattle.feature_values.specs.declared.schema.FeatureType.{FeatureType}
use Rattle.feature_values.specs.declared.schema.Schema.{Schema}
use Rattle.fes_filter.specs.declared.expr.Expr.{Expr}
use Rattle.fes_filter.specs.declared.expr.Expr.TheVariants.{Property, Literal, Parameter}
use Rattle.fes_filter.specs.declared.expr.By.{By}
use Rattle.fes_filter.specs.declared.expr.By.TheVariants.{Equal, NotEqual, Less}
use Rattle.fes_filter.specs.declared.filter.Filter.{Filter}
use Rattle.fes_filter.specs.declared.filter.Filter.TheOpen.{Filter-F}
use Rattle.fes_filter.specs.declared.filter.Filter.TheFolds.{fold-Filter}
use Rattle.fes_filter.specs.declared.fault.FilterFault.{FilterFault}
use Rattle.fes_filter.specs.declared.fault.FilterFault.TheVariants.{Unknown, Types, Choice, TooLarge}

-- what is wrong with one operator, apart from its parts
abbrev pub Verdict : Type 0
Verdict = Result (Unit {0}) FilterFault

-- what has to hold, or else the fault
unfoldable pub wanted : Bool → FilterFault → Verdict
wanted holds fault = if holds then Ok tt else Err fault

-- ---- types and properties

-- the type of a number
abbrev pub type_in : Schema → Option ℕ → Option FeatureType
type_in schema kind = option_and_then (λ k. slice_get schema.types k) kind

abbrev pub with_kind : FeatureType → ℕ → Option (ℕ × ValueKind)
with_kind of_type property = option_map (λ p. (property, p.kind)) (slice_get of_type.properties property)

-- the property of the type with this name, whose prefix is not judged, and its kind
abbrev pub property_in : Option FeatureType → List ℕ → Option (ℕ × ValueKind)
property_in None name = None
property_in (Some of_type) name = option_and_then (with_kind of_type) (property_named of_type (without_prefix name))

-- ---- kinds

abbrev pub kind_in : Option SchemaProperty → Result ValueKind FilterFault
kind_in None = Err Unknown
kind_in (Some property) = Ok property.kind

-- the kind of a property of the type
abbrev pub kind_of : Option FeatureType → ℕ → Result ValueKind FilterFault
kind_of None property = Err Unknown
kind_of (Some of_type) property = kind_in (slice_get of_type.properties property)

abbrev pub is_same : ValueKind → ValueKind → Bool
is_same Words Words = true
is_same Whole Whole = true
is_same Truth Truth = true
is_same Point Point = true
is_same Line Line = true
is_same Polygon Polygon = true
is_same a b = false

abbrev pub is_words : ValueKind → Bool
is_words Words = true
is_words kind = false

abbrev pub is_shape : ValueKind → Bool
is_shape Point = true
is_shape Line = true
is_shape Polygon = true
is_shape kind = false

abbrev pub is_equality : By → Bool
is_equality Equal = true
is_equality NotEqual = true
is_equality by = false

-- Texts and whole numbers are compared by each operator, truth values by equality alone, and geometries by none.
abbrev pub is_comparable : By → ValueKind → Bool
is_comparable by Words = true
is_comparable by Whole = true
is_comparable by Truth = is_equality by
is_comparable by kind = false

-- ---- expressions

-- an expression names no property that the type has not
abbrev pub known : Option FeatureType → Expr → Verdict
known of_type (Property property) = kind_of of_type property >>= λ kind. Ok tt
known of_type (Literal value) = Ok tt
known of_type (Parameter place) = Ok tt

abbrev pub is_that_kind : ValueKind → Result ValueKind FilterFault → Bool
is_that_kind kind (Err fault) = false
is_that_kind kind (Ok other) = is_same kind other

-- An expression is of a kind. A parameter is of the kind that its place asks for.
abbrev pub is_suited : Option FeatureType → ValueKind → Expr → Bool
is_suited of_type kind (Property property) = is_that_kind kind (kind_of of_type property)
is_suited of_type kind (Literal value) = is_of_kind value kind
is_suited of_type kind (Parameter place) = true

-- the property of a comparison, the first if both sides are one
abbrev pub subject : Expr → Expr → Option ℕ
subject (Property property) right = Some property
subject (Literal value) (Property property) = Some property
subject (Parameter place) (Property property) = Some property
subject left right = None

-- ---- operators

-- Both sides are of the property's kind, and that kind is compared so. Without case only texts are compared, and only
-- for equality.
unfoldable pub compared : Option FeatureType → By → Expr → Expr → Bool → Option ℕ → Verdict
compared of_type by left right fold None = Err Types
compared of_type by left right fold (Some property) =
    kind_of of_type property >>= λ kind.
    wanted (is_comparable by kind && (is_suited of_type kind left && is_suited of_type kind right)) Types >>= λ _.
    wanted (not fold || (is_words kind && is_equality by)) Choice

unfoldable pub compare_fault : Option FeatureType → By → Expr → Expr → Bool → Verdict
compare_fault of_type by left right fold =
    known of_type left >>= λ _. known of_type right >>= λ _. compared of_type by left right fold (subject left right)

-- The bounds are of the property's kind, and that kind has an order.
unfoldable pub between_fault : Option FeatureType → ℕ → Expr → Expr → Verdict
between_fault of_type property low high =
    kind_of of_type property >>= λ kind. known of_type low >>= λ _. known of_type high >>= λ _.
    wanted (is_comparable Less kind && (is_suited of_type kind low && is_suited of_type kind high)) Types

unfoldable pub null_fault : Option FeatureType → ℕ → Verdict
null_fault of_type property = kind_of of_type property >>= λ kind. Ok tt

unfoldable pub like_fault : Option FeatureType → ℕ → Verdict
like_fault of_type property = kind_of of_type property >>= λ kind. wanted (is_words kind) Types

unfoldable pub shape_fault : Option FeatureType → ℕ → Verdict
shape_fault of_type property = kind_of of_type property >>= λ kind. wanted (is_shape kind) Types

-- BBOX may name no property.
abbrev pub box_fault : Option FeatureType → Option ℕ → Verdict
box_fault of_type None = Ok tt
box_fault of_type (Some property) = shape_fault of_type property

-- ---- filters

-- the verdicts on all operators, in document order: on an operator before those on its parts
abbrev pub verdicts_step : Option FeatureType → Filter-F (List Verdict) → List Verdict
verdicts_step of_type (Filter-F.Both parts) = Ok tt ∷ flat_map (λ part. part) parts
verdicts_step of_type (Filter-F.Either parts) = Ok tt ∷ flat_map (λ part. part) parts
verdicts_step of_type (Filter-F.Not part) = Ok tt ∷ part
verdicts_step of_type (Filter-F.Compare by left right fold) = compare_fault of_type by left right fold ∷ []
verdicts_step of_type (Filter-F.Like property pattern) = like_fault of_type property ∷ []
verdicts_step of_type (Filter-F.IsNull property) = null_fault of_type property ∷ []
verdicts_step of_type (Filter-F.Between property low high) = between_fault of_type property low high ∷ []
verdicts_step of_type (Filter-F.Ids ids) = Ok tt ∷ []
verdicts_step of_type (Filter-F.InBox property area) = box_fault of_type property ∷ []
verdicts_step of_type (Filter-F.Meets property shape) = shape_fault of_type property ∷ []
verdicts_step of_type (Filter-F.Apart property shape) = shape_fault of_type property ∷ []

abbrev pub verdicts : Option FeatureType → Filter → List Verdict
verdicts of_type = fold-Filter (List Verdict) (verdicts_step of_type)

-- One more operator, where so many may still stand: it is one too many, or something is wrong with it, or one fewer may
-- stand behind it.
unfoldable pub counted : ℕ → Verdict → Result ℕ FilterFault
counted left verdict = if left == 0 then Err TooLarge else (verdict >>= λ _. Ok (left - 1))

-- how many operators a filter may have
abbrev pub most_operators : ℕ
most_operators = 1_000

-- the first fault of a filter for a type of a schema, or for no type, which has no properties
unfoldable pub check_of : Schema → Option ℕ → Filter → Verdict
check_of schema kind filter = each counted most_operators (verdicts (type_in schema kind) filter) >>= λ _. Ok tt
