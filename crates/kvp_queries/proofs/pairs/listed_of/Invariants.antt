use Rattle.std.proofs.Common.{◌≡◌, drop, []}
use Rattle.wfs_ends.specs.Read.{each}
use Rattle.kvp_queries.specs.Pairs.{next_listed}
use Rattle.kvp_queries.proofs.pairs.listed_of.Given as goal

abbrev pub invariant-loop-pair : goal.invariant-loop-pair
invariant-loop-pair l = each next_listed l.listed.items (drop l.pair-index l.pairs) ≡ each next_listed [] l.pairs
