use Rattle.std.proofs.Common.{◌≡◌, ◌++◌, drop}
use Rattle.kvp_queries.specs.Pairs.{parameters_of}
use Rattle.kvp_queries.proofs.pairs.add_parameters.Given as goal

abbrev pub invariant-loop-pair : goal.invariant-loop-pair
invariant-loop-pair l = l.found.items ++ parameters_of l.operation (drop l.pair-index l.pairs) ≡ l.initial.found.items ++ parameters_of l.operation l.pairs
