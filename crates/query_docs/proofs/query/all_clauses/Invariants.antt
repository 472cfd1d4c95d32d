use Rattle.std.proofs.Common.{◌≡◌, drop}
use Rattle.std.specs.Option.{option_copied}
use Rattle.wfs_ends.specs.Read.{each}
use Rattle.query_docs.specs.Queries.{no_clauses, next_clause}
use Rattle.query_docs.proofs.query.all_clauses.Given as goal

abbrev pub invariant-loop-element : goal.invariant-loop-element
invariant-loop-element l =
    each (next_clause (option_copied l.parameters) l.schema l.kind) l.found (drop l.element-index l.elements)
    ≡ each (next_clause (option_copied l.parameters) l.schema l.kind) no_clauses l.elements
