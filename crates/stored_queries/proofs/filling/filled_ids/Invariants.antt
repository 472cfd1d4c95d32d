use Rattle.std.proofs.Common.{◌≡◌, map, take}
use Rattle.wfs_model.specs.Filled.{filled_id}
use Rattle.stored_queries.proofs.filling.filled_ids.Given as goal

abbrev pub invariant-loop-reference : goal.invariant-loop-reference
invariant-loop-reference l = l.all.items ≡ map (filled_id l.schema l.texts) (take l.reference-index l.references)
