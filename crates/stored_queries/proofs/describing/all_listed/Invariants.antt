use Rattle.std.proofs.Common.{◌≡◌, ◌∷◌, filter, take}
use Rattle.wfs_model.specs.Stored.{built_in}
use Rattle.wfs_model.specs.Read.{is_listed}
use Rattle.stored_queries.proofs.describing.all_listed.Given as goal

abbrev pub invariant-loop-query : goal.invariant-loop-query
invariant-loop-query l = l.all.items ≡ filter (is_listed l.ids) (built_in ∷ take l.query-index l.stored)
