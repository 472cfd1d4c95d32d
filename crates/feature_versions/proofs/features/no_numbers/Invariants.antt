use Rattle.std.proofs.Common.{◌≡◌, replicate}
use Rattle.feature_versions.proofs.features.no_numbers.Given as goal

abbrev pub invariant-loop : goal.invariant-loop
invariant-loop l = l.counters.items ≡ replicate l.counter 0
