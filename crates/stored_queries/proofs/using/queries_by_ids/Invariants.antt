use Rattle.std.proofs.Common.{◌≡◌, map, take}
use Rattle.wfs_model.specs.Expand.{query_by_id}
use Rattle.stored_queries.proofs.using.queries_by_ids.Given as goal

abbrev pub invariant-loop-text : goal.invariant-loop-text
invariant-loop-text l = l.all.items ≡ map (query_by_id l.schema) (take l.text-index l.texts)
