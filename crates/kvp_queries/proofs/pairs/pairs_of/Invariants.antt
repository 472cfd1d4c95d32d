use Rattle.std.proofs.Common.{◌≡◌, ◌++◌, map}
use Rattle.form_urlencoded.specs.Parse.{pairs_left}
use Rattle.kvp_queries.specs.Pairs.{pair_of, pairs_of}
use Rattle.kvp_queries.proofs.pairs.pairs_of.Given as goal

abbrev pub invariant-loop-pair : goal.invariant-loop-pair
invariant-loop-pair l = l.pairs.items ++ map pair_of (pairs_left l.pair-iterator) ≡ pairs_of l.query
