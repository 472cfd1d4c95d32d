use Rattle.std.proofs.Common.{◌≡◌, ◌||◌, take}
use Rattle.std.specs.List.{list_any}
use Rattle.feature_values.specs.declared.feature.Rid.{Rid}
use Rattle.grid_index.specs.Found.{AreMarked}
use Rattle.grid_index.specs.Near.{is_among, puts_near}
use Rattle.grid_index.proofs.search.add_near.Given as goal

abbrev pub invariant-loop-pair : goal.invariant-loop-pair
invariant-loop-pair l = record {
  marked : AreMarked l.found.marks l.found.ids.items;
  finds : (f : Rid) → is_among f l.found.ids.items ≡ (is_among f l.initial.found.ids.items || list_any (puts_near l.asked f) (take l.pair-index l.pairs));
}
