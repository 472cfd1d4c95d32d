use Rattle.std.proofs.Common.{◌≡◌, drop, []}
use Rattle.std.specs.Option.{option_copied}
use Rattle.wfs_ends.specs.Read.{each}
use Rattle.query_docs.specs.Sorting.{next_key}
use Rattle.query_docs.proofs.sorting.all_keys.Given as goal

abbrev pub invariant-loop-element : goal.invariant-loop-element
invariant-loop-element l = each (next_key (option_copied l.of_type)) l.found.items (drop l.element-index l.elements) ≡ each (next_key (option_copied l.of_type)) [] l.elements
