use Rattle.std.proofs.Common.{◌≡◌, [], length, IsUtf8}
use Rattle.wfs_ends.specs.Read.{each}
use Rattle.kvp_queries.specs.Lists.{items_in}
use Rattle.kvp_queries.specs.Sorting.{next_key}
use Rattle.kvp_queries.proofs.sorting.keys_of_type.Given as goal

abbrev pub invariant-loop-first : goal.invariant-loop-first
invariant-loop-first l = record {
  text : IsUtf8 l.rest;
  read : each (next_key l.of_type) l.keys.items (items_in l.rest) ≡ each (next_key l.of_type) [] (items_in l.text);
}

abbrev pub decreases-loop-first : goal.decreases-loop-first
decreases-loop-first l = length l.rest
