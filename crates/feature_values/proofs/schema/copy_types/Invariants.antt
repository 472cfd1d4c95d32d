use Rattle.std.proofs.Common.{◌≡◌, take}
use Rattle.feature_values.proofs.schema.copy_types.Given as goal

abbrev pub invariant-loop-feature_type : goal.invariant-loop-feature_type
invariant-loop-feature_type l = l.all.items ≡ take l.feature_type-index l.types
