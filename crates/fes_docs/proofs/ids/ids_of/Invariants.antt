use Rattle.std.proofs.Common.{◌≡◌, drop, []}
use Rattle.std.specs.Option.{option_copied}
use Rattle.wfs_ends.specs.Read.{each}
use Rattle.fes_docs.specs.Ids.{next_id}
use Rattle.fes_docs.proofs.ids.ids_of.Given as goal

abbrev pub invariant-loop-element : goal.invariant-loop-element
invariant-loop-element l = each (next_id (option_copied l.parameters) l.schema) l.found.items (drop l.element-index l.elements) ≡ each (next_id (option_copied l.parameters) l.schema) [] l.elements
