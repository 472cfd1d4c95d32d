use Rattle.std.proofs.Common.{◌≡◌, map, take}
use Rattle.stored_queries.proofs.describing.ids_of.Given as goal

abbrev pub invariant-loop-query : goal.invariant-loop-query
invariant-loop-query l = l.ids.items ≡ map (λ query. query.id) (take l.query-index l.stored)
