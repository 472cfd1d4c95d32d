use Rattle.std.proofs.Common.{◌≡◌, map, take}
use Rattle.feature_values.specs.declared.schema.Property.{Property}
use Rattle.drill_requests.specs.Requests.{value_of}
use Rattle.drill_requests.proofs.feature.values_of.Given as goal

abbrev pub invariant-loop-property : goal.invariant-loop-property
invariant-loop-property l = l.values.items ≡ map (λ (p : Property). value_of l.fn.round p.kind) (take l.property-index l.properties)
