-- When a filter is true of a feature (OGC 09-026r2: comparisons 7.7, spatial operators 7.8, logical operators 7.10,
-- identifiers 7.11). That a test on a null is false, that texts are ordered by their bytes, that without case they are
-- compared by their full foldings, and what BBOX without a property means, is this project's own.
use Rattle.std.specs.Prelude.{ℕ, Bool, true, false, ◌&&◌, not, if◌then◌else◌, ◌==◌, List, Option, Some, None, slice_get, chars, encode_utf8_all}
use Rattle.std.specs.List.{list_all, list_any}
use Rattle.std.specs.declared.cmp.Ordering.{Ordering}
use Rattle.std.specs.Ordering.{is_eq, is_ne, is_lt, is_gt, is_le, is_ge}
use Rattle.caseless.specs.Caseless.{default_case_fold}
use Rattle.geom_core.specs.Plane.{Bounds}
use Rattle.geom_core.specs.declared.geometry.Geometry.{Geometry}
use Rattle.spatial_tests.specs.Sharing.{do_intersect, do_meet_box}
use Rattle.feature_values.specs.Order.{order_of}
use Rattle.feature_values.specs.declared.value.Value.{Value}
use Rattle.feature_values.specs.declared.value.Value.TheVariants.{Null, Words, Shape}
use Rattle.feature_values.specs.declared.feature.Feature.{Feature}
use Rattle.feature_values.specs.declared.feature.Rid.{Rid}
use Rattle.fes_filter.specs.declared.expr.Expr.{Expr}
use Rattle.fes_filter.specs.declared.expr.Expr.TheVariants.{Property, Literal, Parameter}
use Rattle.fes_filter.specs.declared.expr.By.{By}
use Rattle.fes_filter.specs.declared.expr.By.TheVariants.{Equal, NotEqual, Less, Greater, LessEqual, GreaterEqual}
use Rattle.fes_filter.specs.declared.pattern.LikePart.{LikePart}
use Rattle.fes_filter.specs.declared.ids.IdRef.{IdRef}
use Rattle.fes_filter.specs.declared.ids.IdRef.TheVariants.{Known}
use Rattle.fes_filter.specs.declared.filter.Filter.{Filter}
use Rattle.fes_filter.specs.declared.filter.Filter.TheOpen.{Filter-F}
use Rattle.fes_filter.specs.declared.filter.Filter.TheFolds.{fold-Filter}
use Rattle.fes_filter.specs.Like.{is_like}

-- ---- values

-- the value of a property of a feature, if it has this property
abbrev pub property_of : Feature → ℕ → Option Value
property_of feature property = slice_get feature.values property

-- what an expression stands for; a parameter that no value was put in for stands for nothing
abbrev pub value_of : Feature → Expr → Option Value
value_of feature (Property property) = property_of feature property
value_of feature (Literal value) = Some value
value_of feature (Parameter place) = None

-- a test of the value that is there
abbrev pub passes : (Value → Bool) → Option Value → Bool
passes test None = false
passes test (Some value) = test value

-- no value, or the null
abbrev pub is_missing : Option Value → Bool
is_missing None = true
is_missing (Some Null) = true
is_missing (Some value) = false

-- ---- comparisons

-- A text without its case: its default full case folding (The Unicode Standard, section 3.13). Other values stay.
abbrev pub folded : Value → Value
folded (Words text) = Words (encode_utf8_all (default_case_fold (chars text)))
folded value = value

-- How two values stand to each other, with their case or without it. Nulls, geometries and values of two kinds have no
-- order.
unfoldable pub order_between : Bool → Option Value → Option Value → Option Ordering
order_between fold (Some a) (Some b) = if fold then order_of (folded a) (folded b) else order_of a b
order_between fold a b = None

-- the relation of an operator; without an order it is false
unfoldable pub stands : By → Option Ordering → Bool
stands by None = false
stands Equal (Some order) = is_eq order
stands NotEqual (Some order) = is_ne order
stands Less (Some order) = is_lt order
stands Greater (Some order) = is_gt order
stands LessEqual (Some order) = is_le order
stands GreaterEqual (Some order) = is_ge order

unfoldable pub is_compared : Feature → By → Expr → Expr → Bool → Bool
is_compared feature by left right fold = stands by (order_between fold (value_of feature left) (value_of feature right))

-- A value between two bounds: neither below the low one nor above the high one, and none of the three is null.
unfoldable pub is_between : Feature → ℕ → Expr → Expr → Bool
is_between feature property low high =
    let value = property_of feature property in
    stands GreaterEqual (order_between false value (value_of feature low)) && stands LessEqual (order_between false value (value_of feature high))

-- a text that is like a pattern
abbrev pub is_text_like : List LikePart → Value → Bool
is_text_like pattern (Words text) = is_like pattern (chars text)
is_text_like pattern value = false

-- ---- geometries

-- a geometry that shares a point with a box
abbrev pub is_in : Bounds → Value → Bool
is_in area (Shape shape) = do_meet_box shape area
is_in area value = false

-- a geometry that shares a point with another
abbrev pub meets : Geometry → Value → Bool
meets shape (Shape other) = do_intersect other shape
meets shape value = false

-- The property's geometry meets the box; where no property is named, some geometry of the feature does.
unfoldable pub is_in_box : Feature → Option ℕ → Bounds → Bool
is_in_box feature None area = list_any (is_in area) feature.values
is_in_box feature (Some property) area = passes (is_in area) (property_of feature property)

-- ---- identifiers

-- One identifier of a list. What names nothing, and a parameter that no identifier was put in for, is nobody's.
abbrev pub is_of : Rid → IdRef → Bool
is_of id (Known other) = (other.kind == id.kind) && (other.number == id.number)
is_of id reference = false

-- ---- filters

-- one operator, with the truth of each of its parts in the part's place
abbrev pub truth_step : Feature → Filter-F Bool → Bool
truth_step feature (Filter-F.Both parts) = list_all (λ part. part) parts
truth_step feature (Filter-F.Either parts) = list_any (λ part. part) parts
truth_step feature (Filter-F.Not part) = not part
truth_step feature (Filter-F.Compare by left right fold) = is_compared feature by left right fold
truth_step feature (Filter-F.Like property pattern) = passes (is_text_like pattern) (property_of feature property)
truth_step feature (Filter-F.IsNull property) = is_missing (property_of feature property)
truth_step feature (Filter-F.Between property low high) = is_between feature property low high
truth_step feature (Filter-F.Ids ids) = list_any (is_of feature.id) ids
truth_step feature (Filter-F.InBox property area) = is_in_box feature property area
truth_step feature (Filter-F.Meets property shape) = passes (meets shape) (property_of feature property)
truth_step feature (Filter-F.Apart property shape) = not (passes (meets shape) (property_of feature property))

abbrev pub truth_of : Feature → Filter → Bool
truth_of feature = fold-Filter Bool (truth_step feature)

-- ---- what takes memory

-- a comparison without case stands somewhere in the filter
abbrev pub folds_step : Filter-F Bool → Bool
folds_step (Filter-F.Both parts) = list_any (λ part. part) parts
folds_step (Filter-F.Either parts) = list_any (λ part. part) parts
folds_step (Filter-F.Not part) = part
folds_step (Filter-F.Compare by left right fold) = fold
folds_step operator = false

abbrev pub folds : Filter → Bool
folds = fold-Filter Bool folds_step
