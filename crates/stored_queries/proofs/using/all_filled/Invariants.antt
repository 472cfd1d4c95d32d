use Rattle.std.proofs.Common.{◌≡◌, map, take}
use Rattle.wfs_model.specs.Filled.{filled}
use Rattle.stored_queries.proofs.using.all_filled.Given as goal

abbrev pub invariant-loop-query : goal.invariant-loop-query
invariant-loop-query l = l.all.items ≡ map (filled l.schema l.texts) (take l.query-index l.queries)
