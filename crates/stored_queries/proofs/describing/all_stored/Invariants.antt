use Rattle.std.proofs.Common.{◌≡◌, ◌∷◌, take}
use Rattle.wfs_model.specs.Stored.{built_in}
use Rattle.stored_queries.proofs.describing.all_stored.Given as goal

abbrev pub invariant-loop-query : goal.invariant-loop-query
invariant-loop-query l = l.all.items ≡ built_in ∷ take l.query-index l.stored
