use Rattle.std.proofs.Common.{◌≡◌, ◌||◌, None}
use Rattle.std.specs.List.{list_any}
use Rattle.feature_values.specs.declared.feature.Rid.{Rid}
use Rattle.grid_index.specs.Found.{AreMarked, is_of, is_in_first}
use Rattle.grid_index.specs.Lists.{listed_at}
use Rattle.grid_index.specs.Near.{is_among}
use Rattle.grid_index.proofs.places.collect_near.Given as goal

abbrev pub invariant-loop-i : goal.invariant-loop-i
invariant-loop-i l = record {
  marked : AreMarked l.found.marks l.found.ids.items;
  finds : (f : Rid) → is_among f l.found.ids.items ≡ (list_any (is_of f) (listed_at l.lists None) || is_in_first (listed_at l.lists) l.asked f l.i);
}
