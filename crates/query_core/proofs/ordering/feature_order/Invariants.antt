use Rattle.std.proofs.Common.{◌≡◌}
use Rattle.query_core.specs.Sorting.{feature_order}
use Rattle.query_core.proofs.Keys.{from_key}
use Rattle.query_core.proofs.ordering.feature_order.Given as goal

abbrev pub invariant-loop-key : goal.invariant-loop-key
invariant-loop-key l = from_key l.keys l.key-index l.a l.b ≡ feature_order l.keys l.a l.b
