use Rattle.std.proofs.Common.{◌≡◌, drop}
use Rattle.wfs_ends.specs.Read.{each}
use Rattle.query_docs.specs.Definitions.{no_parts, next_part}
use Rattle.query_docs.specs.Seen.{HasDeclared}
use Rattle.query_docs.proofs.definition.all_parts.Given as goal

abbrev pub invariant-loop-element : goal.invariant-loop-element
invariant-loop-element l = record {
  so_far : each (next_part l.names l.schema) l.found (drop l.element-index l.elements) ≡ each (next_part l.names l.schema) no_parts l.elements;
  seen : HasDeclared l.seen l.found.names;
}
