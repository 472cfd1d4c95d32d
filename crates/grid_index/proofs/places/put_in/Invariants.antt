use Rattle.std.proofs.Common.{◌≡◌, ◌+◌, ◌≤◌, cond, [], ◌∷◌, ◌++◌}
use Rattle.grid_index.specs.Counts.{one_if}
use Rattle.grid_index.specs.Lists.{listed_at, spare_at}
use Rattle.grid_index.specs.Places.{Place, place_at, is_among_first}
use Rattle.grid_index.proofs.places.put_in.Given as goal

abbrev pub invariant-loop-i : goal.invariant-loop-i
invariant-loop-i l = record {
  pairs : (q : Place) → listed_at l.lists q ≡ cond (is_among_first l.i (place_at l.area) q) (listed_at l.initial.lists q ++ (l.id, l.area) ∷ []) (listed_at l.initial.lists q);
  room : (q : Place) → spare_at l.initial.lists q ≤ spare_at l.lists q + one_if (is_among_first l.i (place_at l.area) q);
}
