use Rattle.std.proofs.Common.{◌≡◌, map, drop}
use Rattle.kvp_queries.specs.Pairs.{among}
use Rattle.kvp_queries.proofs.names.among.Given as goal

abbrev pub invariant-loop-listed : goal.invariant-loop-listed
invariant-loop-listed l = among (map (λ n. n.now) (drop l.listed-index l.names)) l.name ≡ among (map (λ n. n.now) l.names) l.name
