use Rattle.std.proofs.Common.{◌≡◌, [], drop}
use Rattle.wfs_ends.specs.Read.{each}
use Rattle.wfs_requests.specs.StoredQueries.{next_id}
use Rattle.wfs_requests.proofs.stored_queries.all_ids.Given as goal

abbrev pub invariant-loop-element : goal.invariant-loop-element
invariant-loop-element l = each next_id l.found.items (drop l.element-index l.elements) ≡ each next_id [] l.elements
