use Rattle.std.proofs.Common.{◌≤◌}
use Rattle.grid_index.specs.Counts.{one_if}
use Rattle.grid_index.specs.Lists.{spare_at, AreSame, IsRoomier}
use Rattle.grid_index.specs.Places.{Place, place_at, is_among_first}
use Rattle.grid_index.proofs.reserving.reserve_one.Given as goal

abbrev pub invariant-loop-i : goal.invariant-loop-i
invariant-loop-i l = record {
  same : AreSame l.initial.lists l.lists;
  kept : IsRoomier l.initial.lists l.lists;
  room : (q : Place) → one_if (is_among_first l.i (place_at l.area) q) ≤ spare_at l.lists q;
}
