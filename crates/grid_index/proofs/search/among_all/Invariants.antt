use Rattle.std.proofs.Common.{◌≡◌, ◌||◌}
use Rattle.feature_values.specs.declared.feature.Rid.{Rid}
use Rattle.grid_index.specs.Found.{AreMarked}
use Rattle.grid_index.specs.Near.{is_among}
use Rattle.grid_index.proofs.Nearby.{any_listed}
use Rattle.grid_index.proofs.search.among_all.Given as goal

abbrev pub invariant-loop-place : goal.invariant-loop-place
invariant-loop-place l = record {
  found : (f : Rid) → (is_among f l.found.ids.items || any_listed l.asked f l._place-iterator) ≡ any_listed l.asked f l.lists.by_place.entries;
  marked : AreMarked l.found.marks l.found.ids.items;
}
