use Rattle.std.proofs.Common.{◌≡◌, drop}
use Rattle.kvp_queries.specs.Pairs.{value_of}
use Rattle.kvp_queries.proofs.pairs.value_among.Given as goal

abbrev pub invariant-loop-pair : goal.invariant-loop-pair
invariant-loop-pair l = value_of l.name (drop l.pair-index l.pairs) ≡ value_of l.name l.pairs
