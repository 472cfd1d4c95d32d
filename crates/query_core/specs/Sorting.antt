-- The order of the features that a query selects (OGC 09-026r2, section 7.12: SortBy). Where nulls stand, that texts are ordered by
-- their bytes, and that ties end in the default order, is this project's own.
use Rattle.std.specs.Prelude.{ℕ, if◌then◌else◌, List, [], ◌∷◌, Option, Some, None}
use Rattle.std.specs.declared.cmp.Ordering.{Ordering}
use Rattle.std.specs.declared.cmp.Ordering.TheVariants.{Equal}
use Rattle.std.specs.Ordering.{ordering_reverse, ordering_then, nat_cmp, is_gt}
use Rattle.feature_values.specs.Order.{order_of}
use Rattle.feature_values.specs.declared.value.Value.{Value}
use Rattle.feature_values.specs.declared.value.Value.TheVariants.{Null, Words, Whole, Truth, Shape}
use Rattle.feature_values.specs.declared.feature.Feature.{Feature}
use Rattle.feature_values.specs.declared.feature.Rid.{Rid}
use Rattle.fes_filter.specs.declared.query.SortKey.{SortKey}
use Rattle.fes_filter.specs.Truth.{property_of}

-- an order, or none, which counts as equal
abbrev pub or_equal : Option Ordering → Ordering
or_equal None = Equal
or_equal (Some order) = order

-- where the kinds of values stand; all values of a property are of one kind, or nulls
abbrev pub kind_place : Value → ℕ
kind_place Null = 0
kind_place (Words text) = 1
kind_place (Whole number) = 2
kind_place (Truth truth) = 3
kind_place (Shape shape) = 4

-- Ascending order of values: a null comes first. Values of one kind are ordered as they compare; geometries do not.
unfoldable pub value_order : Value → Value → Ordering
value_order a b = ordering_then (nat_cmp (kind_place a) (kind_place b)) (or_equal (order_of a b))

-- a property that is not there counts as a null
abbrev pub or_null : Option Value → Value
or_null None = Null
or_null (Some value) = value

-- the order of two features by one key
unfoldable pub key_order : SortKey → Feature → Feature → Ordering
key_order key a b =
    let ascending = value_order (or_null (property_of a key.property)) (or_null (property_of b key.property)) in
    if key.descending then ordering_reverse ascending else ascending

-- the default order of identifiers: by type, in the order of the schema, and within a type by number
unfoldable pub rid_order : Rid → Rid → Ordering
rid_order a b = ordering_then (nat_cmp a.kind b.kind) (nat_cmp a.number b.number)

-- the order of two features by all keys, of which the first counts first, and then by the default order
unfoldable pub feature_order : List SortKey → Feature → Feature → Ordering
feature_order [] a b = rid_order a.id b.id
feature_order (key ∷ keys) a b = ordering_then (key_order key a b) (feature_order keys a b)

-- a feature put in its place among sorted ones
unfoldable pub put_in : List SortKey → Feature → List Feature → List Feature
put_in keys f [] = f ∷ []
put_in keys f (g ∷ gs) = if is_gt (feature_order keys f g) then g ∷ put_in keys f gs else f ∷ g ∷ gs

-- the features in order
unfoldable pub sorted : List SortKey → List Feature → List Feature
sorted keys [] = []
sorted keys (f ∷ fs) = put_in keys f (sorted keys fs)
