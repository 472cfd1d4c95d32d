use Rattle.std.proofs.Common.{◌≡◌, length, drop}
use Rattle.wfs_ends.specs.Read.{each}
use Rattle.wfs_requests.specs.Features.{so_far, next_value}
use Rattle.wfs_requests.proofs.features.all_values.Given as goal

abbrev pub invariant-loop-element : goal.invariant-loop-element
invariant-loop-element l = record {
  reads : each (next_value l.schema l.of_type) (so_far l.met.items l.values.items) (drop l.element-index l.elements) ≡ each (next_value l.schema l.of_type) (so_far l.fn.met.items l.fn.values.items) l.elements;
  met : length l.met.items ≡ length l.of_type.properties;
  values : length l.values.items ≡ length l.of_type.properties;
}
