use Rattle.std.proofs.Common.{◌≡◌, [], drop}
use Rattle.wfs_ends.specs.Read.{each}
use Rattle.wfs_requests.specs.Describing.{next_type}
use Rattle.wfs_requests.proofs.describing.all_types.Given as goal

abbrev pub invariant-loop-element : goal.invariant-loop-element
invariant-loop-element l = each (next_type l.schema) l.found.items (drop l.element-index l.elements) ≡ each (next_type l.schema) [] l.elements
