use Rattle.std.proofs.Common.{◌≡◌, drop, []}
use Rattle.wfs_ends.specs.Read.{each}
use Rattle.kvp_queries.specs.Request.{next_type}
use Rattle.kvp_queries.proofs.describing.all_types.Given as goal

abbrev pub invariant-loop-name : goal.invariant-loop-name
invariant-loop-name l = each (next_type l.schema) l.kinds.items (drop l.name-index l.names) ≡ each (next_type l.schema) [] l.names
