use Rattle.std.proofs.Common.{◌≡◌, [], drop}
use Rattle.wfs_ends.specs.Read.{each}
use Rattle.wfs_requests.specs.Inserts.{next_feature}
use Rattle.wfs_requests.proofs.inserts.features_of.Given as goal

abbrev pub invariant-loop-element : goal.invariant-loop-element
invariant-loop-element l = each (next_feature l.schema) l.found.items (drop l.element-index l.elements) ≡ each (next_feature l.schema) [] l.elements
