use Rattle.std.proofs.Common.{◌≡◌, take}
use Rattle.feature_values.proofs.schema.copy_properties.Given as goal

abbrev pub invariant-loop-property : goal.invariant-loop-property
invariant-loop-property l = l.all.items ≡ take l.property-index l.properties
