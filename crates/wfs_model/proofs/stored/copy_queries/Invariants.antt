use Rattle.std.proofs.Common.{◌≡◌, take}
use Rattle.wfs_model.proofs.stored.copy_queries.Given as goal

abbrev pub invariant-loop-query : goal.invariant-loop-query
invariant-loop-query l = l.all.items ≡ take l.query-index l.queries
