use Rattle.std.proofs.Common.{◌≡◌, drop, []}
use Rattle.wfs_ends.specs.Read.{each}
use Rattle.query_docs.specs.Definitions.{next_query}
use Rattle.query_docs.proofs.definition.all_queries.Given as goal

abbrev pub invariant-loop-element : goal.invariant-loop-element
invariant-loop-element l = each (next_query l.names l.schema) l.found.items (drop l.element-index l.elements) ≡ each (next_query l.names l.schema) [] l.elements
