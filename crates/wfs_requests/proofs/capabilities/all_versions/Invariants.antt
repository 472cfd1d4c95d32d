use Rattle.std.proofs.Common.{◌≡◌, [], drop}
use Rattle.wfs_ends.specs.Read.{each}
use Rattle.wfs_requests.specs.Capabilities.{next_version}
use Rattle.wfs_requests.proofs.capabilities.all_versions.Given as goal

abbrev pub invariant-loop-element : goal.invariant-loop-element
invariant-loop-element l = each next_version l.found.items (drop l.element-index l.elements) ≡ each next_version [] l.elements
