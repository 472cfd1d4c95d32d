use Rattle.std.proofs.Common.{◌≡◌, ◌-◌, ◌&&◌}
use Rattle.grid_index.specs.Counts.{one_if, is_pair, times}
use Rattle.grid_index.specs.Lists.{listed_at, IsRoomier}
use Rattle.grid_index.specs.Near.{Placed}
use Rattle.grid_index.specs.Places.{Place, place_at, is_among_first}
use Rattle.grid_index.proofs.places.take_out.Given as goal

abbrev pub invariant-loop-i : goal.invariant-loop-i
invariant-loop-i l = record {
  pairs : (q : Place) (p : Placed) → times p (listed_at l.lists q) ≡ times p (listed_at l.initial.lists q) - one_if (is_among_first l.i (place_at l.area) q && is_pair p (l.id, l.area));
  room : IsRoomier l.initial.lists l.lists;
}
