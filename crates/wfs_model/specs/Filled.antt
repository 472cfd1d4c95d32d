-- The parameters of stored queries (OGC 09-025r2, section 7.9.3): where they stand, and what stands in their place when texts are given for
-- them. A text is read as the kind of the property beside it; how long the property's texts may be does not count.
use Rattle.std.specs.Prelude.{ℕ, Bool, true, false, ◌||◌, ◌==◌, if◌then◌else◌, List, [], ◌∷◌, flat_map, map, Option, Some, None, option_map, Result, Ok, Err, slice_get}
use Rattle.std.specs.List.{list_all}
use Rattle.feature_values.specs.declared.schema.ValueKind.{ValueKind}
use Rattle.feature_values.specs.declared.schema.FeatureType.{FeatureType}
use Rattle.feature_values.specs.declared.schema.Schema.{Schema}
use Rattle.feature_values.specs.declared.feature.Rid.{Rid}
use Rattle.feature_values.specs.declared.value.Value.{Value}
use Rattle.feature_values.specs.declared.fault.ValueFault.{ValueFault}
use Rattle.feature_values.specs.Reads.{read_as}
use Rattle.feature_values.specs.Ids.{rid_of}
use Rattle.fes_filter.specs.declared.expr.Expr.{Expr}
use Rattle.fes_filter.specs.declared.expr.Expr.TheVariants.{Property, Literal, Parameter}
use Rattle.fes_filter.specs.declared.ids.IdRef.{IdRef}
use Rattle.fes_filter.specs.declared.ids.IdRef.TheVariants.{Known, Nobody, Parameter as IdParameter}
use Rattle.fes_filter.specs.declared.filter.Filter.{Filter}
use Rattle.fes_filter.specs.declared.filter.Filter.TheVariants.{Both, Either, Not, Compare, Like, IsNull, Between, Ids, InBox, Meets, Apart}
use Rattle.fes_filter.specs.declared.filter.Filter.TheOpen.{Filter-F}
use Rattle.fes_filter.specs.declared.filter.Filter.TheFolds.{fold-Filter}
use Rattle.fes_filter.specs.declared.fault.FilterFault.{FilterFault}
use Rattle.fes_filter.specs.declared.query.Query.{Query}
use Rattle.fes_filter.specs.Check.{type_in, kind_of, subject}

-- ---- the kind that a place asks for

abbrev pub ok_kind : Result ValueKind FilterFault → Option ValueKind
ok_kind (Err fault) = None
ok_kind (Ok kind) = Some kind

-- the kind of a property of the type
abbrev pub kind_at : Option FeatureType → Option ℕ → Option ValueKind
kind_at of_type None = None
kind_at of_type (Some property) = ok_kind (kind_of of_type property)

-- ---- whether a text can be read wherever a parameter stands

abbrev pub does_read : Result Value ValueFault → Bool
does_read (Err fault) = false
does_read (Ok value) = true

abbrev pub is_read_as : List ℕ → Option ValueKind → Bool
is_read_as text None = false
is_read_as text (Some kind) = does_read (read_as kind text)

-- an expression is this parameter
abbrev pub is_parameter : ℕ → Expr → Bool
is_parameter place (Property property) = false
is_parameter place (Literal value) = false
is_parameter place (Parameter other) = other == place

-- the kind of a property, where one of two expressions beside it is the parameter
abbrev pub kind_beside : Option FeatureType → ℕ → Option ℕ → Expr → Expr → List (Option ValueKind)
kind_beside of_type place property a b = if is_parameter place a || is_parameter place b then kind_at of_type property ∷ [] else []

-- the kinds that the places of a parameter ask for, in one operator and its parts
abbrev pub kinds_step : Option FeatureType → ℕ → Filter-F (List (Option ValueKind)) → List (Option ValueKind)
kinds_step of_type place (Filter-F.Both parts) = flat_map (λ part. part) parts
kinds_step of_type place (Filter-F.Either parts) = flat_map (λ part. part) parts
kinds_step of_type place (Filter-F.Not part) = part
kinds_step of_type place (Filter-F.Compare by left right fold) = kind_beside of_type place (subject left right) left right
kinds_step of_type place (Filter-F.Between property low high) = kind_beside of_type place (Some property) low high
kinds_step of_type place operator = []

abbrev pub kinds_in : Option FeatureType → ℕ → Option Filter → List (Option ValueKind)
kinds_in of_type place None = []
kinds_in of_type place (Some filter) = fold-Filter (List (Option ValueKind)) (kinds_step of_type place) filter

-- the kinds that the places of a parameter ask for in some queries; a place in a list of identifiers takes any text
unfoldable pub kinds_asked : Schema → List Query → ℕ → List (Option ValueKind)
kinds_asked schema queries place = flat_map (λ query. kinds_in (type_in schema query.kind) place query.filter) queries

-- a text reads as each kind that the places of a parameter ask for
unfoldable pub is_readable : Schema → List Query → ℕ → List ℕ → Bool
is_readable schema queries place text = list_all (is_read_as text) (kinds_asked schema queries place)

-- ---- what stands in the place of parameters

abbrev pub literal_of : ℕ → Result Value ValueFault → Expr
literal_of place (Err fault) = Parameter place
literal_of place (Ok value) = Literal value

abbrev pub read_at : ℕ → Option ValueKind → Option (List ℕ) → Expr
read_at place (Some kind) (Some text) = literal_of place (read_as kind text)
read_at place kind text = Parameter place

-- an expression beside a property of a kind; a parameter gives way to the value that its text reads as
abbrev pub filled_expr : List (List ℕ) → Option ValueKind → Expr → Expr
filled_expr texts kind (Property property) = Property property
filled_expr texts kind (Literal value) = Literal value
filled_expr texts kind (Parameter place) = read_at place kind (slice_get texts place)

abbrev pub known_or_nobody : Option Rid → IdRef
known_or_nobody None = Nobody
known_or_nobody (Some id) = Known id

abbrev pub id_at : Schema → ℕ → Option (List ℕ) → IdRef
id_at schema place None = IdParameter place
id_at schema place (Some text) = known_or_nobody (rid_of schema text)

-- a parameter in a list of identifiers gives way to the feature that its text names; what names none selects nothing
abbrev pub filled_id : Schema → List (List ℕ) → IdRef → IdRef
filled_id schema texts (Known id) = Known id
filled_id schema texts Nobody = Nobody
filled_id schema texts (IdParameter place) = id_at schema place (slice_get texts place)

-- one operator, with its parts filled
abbrev pub filled_step : Schema → Option FeatureType → List (List ℕ) → Filter-F Filter → Filter
filled_step schema of_type texts (Filter-F.Both parts) = Both parts
filled_step schema of_type texts (Filter-F.Either parts) = Either parts
filled_step schema of_type texts (Filter-F.Not part) = Not part
filled_step schema of_type texts (Filter-F.Compare by left right fold) =
    let kind = kind_at of_type (subject left right) in Compare by (filled_expr texts kind left) (filled_expr texts kind right) fold
filled_step schema of_type texts (Filter-F.Like property pattern) = Like property pattern
filled_step schema of_type texts (Filter-F.IsNull property) = IsNull property
filled_step schema of_type texts (Filter-F.Between property low high) =
    let kind = kind_at of_type (Some property) in Between property (filled_expr texts kind low) (filled_expr texts kind high)
filled_step schema of_type texts (Filter-F.Ids ids) = Ids (map (filled_id schema texts) ids)
filled_step schema of_type texts (Filter-F.InBox property area) = InBox property area
filled_step schema of_type texts (Filter-F.Meets property shape) = Meets property shape
filled_step schema of_type texts (Filter-F.Apart property shape) = Apart property shape

abbrev pub filled_filter : Schema → Option FeatureType → List (List ℕ) → Filter → Filter
filled_filter schema of_type texts = fold-Filter Filter (filled_step schema of_type texts)

-- a query with the texts of its parameters, by their places
unfoldable pub filled : Schema → List (List ℕ) → Query → Query
filled schema texts query = record query { filter = option_map (filled_filter schema (type_in schema query.kind) texts) query.filter }
