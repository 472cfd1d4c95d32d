use Rattle.std.proofs.Common.{◌≡◌, [], drop}
use Rattle.wfs_ends.specs.Read.{each}
use Rattle.wfs_requests.specs.Fetching.{next_asked}
use Rattle.wfs_requests.proofs.fetching.asked_in.Given as goal

abbrev pub invariant-loop-element : goal.invariant-loop-element
invariant-loop-element l = each (next_asked l.schema) l.found.items (drop l.element-index l.elements) ≡ each (next_asked l.schema) [] l.elements
