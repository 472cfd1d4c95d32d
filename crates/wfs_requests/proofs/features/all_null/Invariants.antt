use Rattle.std.proofs.Common.{◌≡◌, map, take}
use Rattle.feature_values.specs.declared.value.Value.TheVariants.{Null}
use Rattle.wfs_requests.proofs.features.all_null.Given as goal

abbrev pub invariant-loop : goal.invariant-loop
invariant-loop l = l.values.items ≡ map (λ p. Null) (take l.index l.properties)
