use Rattle.std.proofs.Common.{◌≡◌, None, drop}
use Rattle.wfs_ends.specs.Read.{each}
use Rattle.wfs_requests.specs.Capabilities.{next_accepted}
use Rattle.wfs_requests.proofs.capabilities.all_accepted.Given as goal

abbrev pub invariant-loop-element : goal.invariant-loop-element
invariant-loop-element l = each next_accepted l.found (drop l.element-index l.elements) ≡ each next_accepted None l.elements
