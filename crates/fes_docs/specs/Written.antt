-- The element that stands for a filter in a stored text (FES 2.0, OGC 09-026r2, section 7). Only what is not the default
-- is written: matchCase as false alone, and no matchAction.
use Rattle.std.specs.Prelude.{ℕ, Bool, true, false, if◌then◌else◌, ◌||◌, ◌==◌, List, [], ◌∷◌, ◌++◌, map, codes, encode_utf8, slice_get, decimal, Option, Some, None}
use Rattle.std.specs.List.{flat_map}
use Rattle.std.specs.Fmt.{signed_decimal}
use Rattle.wfs_ends.specs.Ends.{joined}
use Rattle.doc_tree.specs.Tree.{prefixed}
use Rattle.doc_tree.specs.declared.tree.Attribute.{Attribute}
use Rattle.doc_tree.specs.declared.tree.Element.{Element}
use Rattle.doc_tree.specs.declared.tree.Element.TheViews.{roll-Element}
use Rattle.geom_core.specs.Plane.{Bounds}
use Rattle.geom_core.specs.declared.geometry.Geometry.{Geometry}
use Rattle.gml_docs.specs.Written.{plain_name, position_text, leaf as gml_leaf, parent as gml_parent, tree_of}
use Rattle.feature_values.specs.declared.schema.Property.{Property as SchemaProperty}
use Rattle.feature_values.specs.declared.schema.FeatureType.{FeatureType}
use Rattle.feature_values.specs.declared.schema.Schema.{Schema}
use Rattle.feature_values.specs.declared.value.Value.{Value}
use Rattle.feature_values.specs.declared.value.Value.TheVariants.{Words, Whole, Truth}
use Rattle.fes_filter.specs.Check.{type_in}
use Rattle.fes_filter.specs.declared.expr.Expr.{Expr}
use Rattle.fes_filter.specs.declared.expr.Expr.TheVariants.{Property, Literal, Parameter}
use Rattle.fes_filter.specs.declared.expr.By.{By}
use Rattle.fes_filter.specs.declared.expr.By.TheVariants.{Equal, NotEqual, Less, Greater, LessEqual, GreaterEqual}
use Rattle.fes_filter.specs.declared.ids.IdRef.{IdRef}
use Rattle.fes_filter.specs.declared.ids.IdRef.TheVariants as Id
use Rattle.fes_filter.specs.declared.pattern.LikePart.{LikePart}
use Rattle.fes_filter.specs.declared.pattern.LikePart.TheVariants.{Exactly, One, Many}
use Rattle.fes_filter.specs.declared.filter.Filter.{Filter, out-Filter}
use Rattle.fes_filter.specs.declared.filter.Filter.TheOpen.{Filter-F}
use Rattle.fes_filter.specs.declared.filter.Filter.TheFolds.{fold-Filter}
use Rattle.fes_docs.specs.Names.{fes_space}

-- ---- elements of FES

unfoldable pub element : List ℕ → List Attribute → List Element → List ℕ → Element
element local attributes children text =
    roll-Element (record { name = record { space = fes_space; local = local }; attributes = attributes; children = children; text = text })

-- one that has a text alone, and one that has children alone
unfoldable pub leaf : List ℕ → List ℕ → Element
leaf local text = element local [] [] text

unfoldable pub parent : List ℕ → List Element → Element
parent local children = element local [] children []

-- an attribute in no namespace
unfoldable pub attribute : List ℕ → List ℕ → Attribute
attribute local value = record { name = plain_name local; value = value }

-- ---- properties and literals

abbrev pub name_if : Option SchemaProperty → List ℕ
name_if None = []
name_if (Some property) = property.name

abbrev pub property_name : Option FeatureType → ℕ → List ℕ
property_name None property = []
property_name (Some of_type) property = name_if (slice_get of_type.properties property)

-- a ValueReference: the name of a property, with the prefix of the schema
unfoldable pub reference : Schema → Option ℕ → ℕ → Element
reference schema kind property = leaf (codes "ValueReference") (prefixed schema.prefix (property_name (type_in schema kind) property))

abbrev pub truth_text : Bool → List ℕ
truth_text true = codes "true"
truth_text false = codes "false"

-- A null and a geometry are no literals.
abbrev pub value_text : Value → List ℕ
value_text (Words text) = text
value_text (Whole number) = signed_decimal number
value_text (Truth truth) = truth_text truth
value_text value = []

-- a text that stands for a parameter of this name
unfoldable pub use_of : List ℕ → List ℕ
use_of name = joined (codes "${" ∷ name ∷ codes "}" ∷ [])

abbrev pub use_if : Option (List ℕ) → List ℕ
use_if None = []
use_if (Some name) = use_of name

-- A parameter is named where parameters are listed.
abbrev pub place_text : Option (List (List ℕ)) → ℕ → List ℕ
place_text None place = []
place_text (Some names) place = use_if (slice_get names place)

abbrev pub side : Option (List (List ℕ)) → Schema → Option ℕ → Expr → Element
side parameters schema kind (Property property) = reference schema kind property
side parameters schema kind (Literal value) = leaf (codes "Literal") (value_text value)
side parameters schema kind (Parameter place) = leaf (codes "Literal") (place_text parameters place)

-- ---- comparisons

abbrev pub comparison_name : By → List ℕ
comparison_name Equal = codes "PropertyIsEqualTo"
comparison_name NotEqual = codes "PropertyIsNotEqualTo"
comparison_name Less = codes "PropertyIsLessThan"
comparison_name Greater = codes "PropertyIsGreaterThan"
comparison_name LessEqual = codes "PropertyIsLessThanOrEqualTo"
comparison_name GreaterEqual = codes "PropertyIsGreaterThanOrEqualTo"

abbrev pub case_attributes : Bool → List Attribute
case_attributes true = attribute (codes "matchCase") (codes "false") ∷ []
case_attributes false = []

-- the two sides in the order in which they were read
unfoldable pub compare_tree : Option (List (List ℕ)) → Schema → Option ℕ → By → Expr → Expr → Bool → Element
compare_tree parameters schema kind by left right fold =
    element (comparison_name by) (case_attributes fold) (side parameters schema kind left ∷ side parameters schema kind right ∷ []) []

-- ---- PropertyIsLike

-- A part of a pattern: * for any characters, . for one, and ! before each of these three where it stands for itself.
unfoldable pub part_text : LikePart → List ℕ
part_text Many = codes "*"
part_text One = codes "."
part_text (Exactly c) = if (c == 42) || (c == 46) || (c == 33) then codes "!" ++ encode_utf8 c else encode_utf8 c

abbrev pub mark_attributes : List Attribute
mark_attributes = attribute (codes "wildCard") (codes "*") ∷ attribute (codes "singleChar") (codes ".") ∷ attribute (codes "escapeChar") (codes "!") ∷ []

unfoldable pub like_tree : Schema → Option ℕ → ℕ → List LikePart → Element
like_tree schema kind property pattern =
    element (codes "PropertyIsLike") mark_attributes (reference schema kind property ∷ leaf (codes "Literal") (flat_map part_text pattern) ∷ []) []

-- ---- ranges and nulls

unfoldable pub bound_tree : List ℕ → Option (List (List ℕ)) → Schema → Option ℕ → Expr → Element
bound_tree local parameters schema kind bound = parent local (side parameters schema kind bound ∷ [])

unfoldable pub between_tree : Option (List (List ℕ)) → Schema → Option ℕ → ℕ → Expr → Expr → Element
between_tree parameters schema kind property low high = parent (codes "PropertyIsBetween")
    (reference schema kind property ∷ bound_tree (codes "LowerBoundary") parameters schema kind low ∷ bound_tree (codes "UpperBoundary") parameters schema kind high ∷ [])

unfoldable pub null_tree : Schema → Option ℕ → ℕ → Element
null_tree schema kind property = parent (codes "PropertyIsNull") (reference schema kind property ∷ [])

-- ---- ResourceId

abbrev pub type_name : Option FeatureType → List ℕ
type_name None = []
type_name (Some of_type) = of_type.name

-- The identifier of a feature is the name of its type, a dot and its number. That of no feature is empty.
abbrev pub id_text : Option (List (List ℕ)) → Schema → IdRef → List ℕ
id_text parameters schema (Id.Known id) = joined (type_name (slice_get schema.types id.kind) ∷ codes "." ∷ decimal id.number ∷ [])
id_text parameters schema Id.Nobody = []
id_text parameters schema (Id.Parameter place) = place_text parameters place

unfoldable pub id_tree : Option (List (List ℕ)) → Schema → IdRef → Element
id_tree parameters schema id = element (codes "ResourceId") (attribute (codes "rid") (id_text parameters schema id) ∷ []) [] []

-- Where one operator is wanted, one ResourceId is one. Others stand in an Or, which says the same.
abbrev pub ids_tree : Option (List (List ℕ)) → Schema → List IdRef → Element
ids_tree parameters schema (id ∷ []) = id_tree parameters schema id
ids_tree parameters schema ids = parent (codes "Or") (map (id_tree parameters schema) ids)

-- ---- BBOX, Intersects and Disjoint

-- the name of the reference system that is written
abbrev pub first_name : List (List ℕ) → List ℕ
first_name [] = []
first_name (name ∷ names) = name

-- an Envelope, with the reference system as its one attribute
unfoldable pub envelope_tree : List (List ℕ) → Bounds → Element
envelope_tree srs area = gml_parent (codes "Envelope") (attribute (codes "srsName") (first_name srs) ∷ [])
    (gml_leaf (codes "lowerCorner") (position_text area.low) ∷ gml_leaf (codes "upperCorner") (position_text area.high) ∷ [])

abbrev pub box_children : Schema → Option ℕ → Option ℕ → Element → List Element
box_children schema kind None envelope = envelope ∷ []
box_children schema kind (Some property) envelope = reference schema kind property ∷ envelope ∷ []

unfoldable pub box_tree : Schema → Option ℕ → Option ℕ → Bounds → Element
box_tree schema kind property area = parent (codes "BBOX") (box_children schema kind property (envelope_tree schema.srs area))

-- a property and a geometry, whose identifier is g, in an operator of this name
unfoldable pub shape_tree : Schema → Option ℕ → List ℕ → ℕ → Geometry → Element
shape_tree schema kind local property shape = parent local (reference schema kind property ∷ tree_of shape (codes "g") (first_name schema.srs) ∷ [])

-- ---- all operators

-- an operator, by the elements of its parts
abbrev pub operator_step : Option (List (List ℕ)) → Schema → Option ℕ → Filter-F Element → Element
operator_step parameters schema kind (Filter-F.Both parts) = parent (codes "And") parts
operator_step parameters schema kind (Filter-F.Either parts) = parent (codes "Or") parts
operator_step parameters schema kind (Filter-F.Not part) = parent (codes "Not") (part ∷ [])
operator_step parameters schema kind (Filter-F.Compare by left right fold) = compare_tree parameters schema kind by left right fold
operator_step parameters schema kind (Filter-F.Like property pattern) = like_tree schema kind property pattern
operator_step parameters schema kind (Filter-F.IsNull property) = null_tree schema kind property
operator_step parameters schema kind (Filter-F.Between property low high) = between_tree parameters schema kind property low high
operator_step parameters schema kind (Filter-F.Ids ids) = ids_tree parameters schema ids
operator_step parameters schema kind (Filter-F.InBox property area) = box_tree schema kind property area
operator_step parameters schema kind (Filter-F.Meets property shape) = shape_tree schema kind (codes "Intersects") property shape
operator_step parameters schema kind (Filter-F.Apart property shape) = shape_tree schema kind (codes "Disjoint") property shape

-- a filter as the one operator that it is
abbrev pub operator_tree : Option (List (List ℕ)) → Schema → Option ℕ → Filter → Element
operator_tree parameters schema kind = fold-Filter Element (operator_step parameters schema kind)

-- ---- the whole

-- In a Filter several ResourceId stand side by side.
abbrev pub content_by : Option (List (List ℕ)) → Schema → Element → Filter-F Filter → List Element
content_by parameters schema operator (Filter-F.Ids ids) = map (id_tree parameters schema) ids
content_by parameters schema operator other = operator ∷ []

-- the element of a filter for a type of a schema, or for no type, where the parameters have these names
unfoldable pub filter_tree : Option (List (List ℕ)) → Schema → Option ℕ → Filter → Element
filter_tree parameters schema kind filter = parent (codes "Filter") (content_by parameters schema (operator_tree parameters schema kind filter) (out-Filter filter))
