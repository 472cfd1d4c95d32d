use Rattle.std.proofs.Common.{◌≡◌, [], drop}
use Rattle.wfs_ends.specs.Read.{each}
use Rattle.wfs_requests.specs.Transactions.{next_action}
use Rattle.wfs_requests.proofs.transactions.actions_of.Given as goal

abbrev pub invariant-loop-element : goal.invariant-loop-element
invariant-loop-element l = each (next_action l.schema) l.found.items (drop l.element-index l.elements) ≡ each (next_action l.schema) [] l.elements
