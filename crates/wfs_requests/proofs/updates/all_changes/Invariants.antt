use Rattle.std.proofs.Common.{◌≡◌, drop}
use Rattle.wfs_ends.specs.Read.{each}
use Rattle.wfs_requests.specs.Updates.{so_far, next_change}
use Rattle.wfs_requests.proofs.updates.all_changes.Given as goal

abbrev pub invariant-loop-element : goal.invariant-loop-element
invariant-loop-element l = each (next_change l.schema l.kind) (so_far l.sets.items l.filter) (drop l.element-index l.elements) ≡ each (next_change l.schema l.kind) (so_far l.fn.sets.items l.fn.filter) l.elements
