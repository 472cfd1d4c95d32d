-- Features beside the values by which they are sorted first. In which order features stand is said without them.
use Rattle.std.specs.Prelude.{if◌then◌else◌, Bool, List, [], ◌∷◌}
use Rattle.std.specs.declared.cmp.Ordering.{Ordering}
use Rattle.std.specs.Ordering.{ordering_reverse, ordering_then}
use Rattle.feature_values.specs.declared.value.Value.{Value}
use Rattle.feature_values.specs.declared.value.Value.TheVariants.{Null, Words, Whole, Truth, Shape}
use Rattle.feature_values.specs.declared.feature.Feature.{Feature}
use Rattle.fes_filter.specs.declared.query.SortKey.{SortKey}
use Rattle.fes_filter.specs.Truth.{property_of}
use Rattle.query_core.specs.declared.ordering.ValueRef.{ValueRef}
use Rattle.query_core.specs.declared.ordering.ValueRef.TheVariants as borrowed
use Rattle.query_core.specs.declared.keyed.Keyed.{Keyed}
use Rattle.query_core.specs.Sorting.{or_null, value_order, rid_order, feature_order}

-- the value of which a part is borrowed
abbrev pub value_behind : ValueRef → Value
value_behind borrowed.Null = Null
value_behind (borrowed.Words text) = Words text.now
value_behind (borrowed.Whole number) = Whole number
value_behind (borrowed.Truth truth) = Truth truth
value_behind (borrowed.Shape shape) = Shape shape.now

-- a value and a feature
abbrev pub Pair : Type 0
Pair = Value × Feature

abbrev pub pair_of : Keyed → Pair
pair_of keyed = (value_behind keyed.value, keyed.feature.now)

-- the value by which a feature is sorted first; a null where there is no key
abbrev pub first_value : List SortKey → Feature → Value
first_value [] f = Null
first_value (key ∷ keys) f = or_null (property_of f key.property)

abbrev pub pair_by : List SortKey → Feature → Pair
pair_by keys f = (first_value keys f, f)

-- an order that ascends, turned round where it is to descend
abbrev pub by_way : Bool → Ordering → Ordering
by_way descending ascending = if descending then ordering_reverse ascending else ascending

-- the order of two features, of which the values for the first key are at hand
unfoldable pub pair_order : List SortKey → Pair → Pair → Ordering
pair_order [] a b = rid_order a.1.id b.1.id
pair_order (key ∷ keys) a b = ordering_then (by_way key.descending (value_order a.0 b.0)) (feature_order keys a.1 b.1)
