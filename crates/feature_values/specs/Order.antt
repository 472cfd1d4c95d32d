-- How two values of one kind stand to each other. That nulls, geometries and values of two kinds have no order is this
-- project's own.
use Rattle.std.specs.Prelude.{Option, Some, None}
use Rattle.std.specs.declared.cmp.Ordering.{Ordering}
use Rattle.std.specs.Ordering.{nat_cmp, int_cmp, bool_cmp}
use Rattle.std.specs.Cmp.Lexicographic.{slice_cmp}
use Rattle.feature_values.specs.declared.value.Value.{Value}
use Rattle.feature_values.specs.declared.value.Value.TheVariants.{Words, Whole, Truth}

-- texts by their bytes, whole numbers by value, false before true
abbrev pub order_of : Value → Value → Option Ordering
order_of (Words a) (Words b) = Some (slice_cmp nat_cmp a b)
order_of (Whole a) (Whole b) = Some (int_cmp a b)
order_of (Truth a) (Truth b) = Some (bool_cmp a b)
order_of a b = None
