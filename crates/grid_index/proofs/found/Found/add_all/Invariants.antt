use Rattle.std.proofs.Common.{◌≡◌, ◌||◌, take}
use Rattle.std.specs.List.{list_any}
use Rattle.feature_values.specs.declared.feature.Rid.{Rid}
use Rattle.grid_index.specs.Found.{AreMarked, is_of}
use Rattle.grid_index.specs.Near.{is_among}
use Rattle.grid_index.proofs.found.Found.add_all.Given as goal

abbrev pub invariant-loop-pair : goal.invariant-loop-pair
invariant-loop-pair l = record {
  marked : AreMarked l.self.marks l.self.ids.items;
  finds : (f : Rid) → is_among f l.self.ids.items ≡ (is_among f l.initial.self.ids.items || list_any (is_of f) (take l.pair-index l.pairs));
}
