use Rattle.grid_index.specs.Lists.{spare_at, AreSame, IsRoomier}
use Rattle.grid_index.proofs.Looking.{HasTurn}
use Rattle.grid_index.proofs.reserving.reserve_counts.Given as goal

abbrev pub invariant-loop-place : goal.invariant-loop-place
invariant-loop-place l = record {
  same : AreSame l.initial.lists l.lists;
  kept : IsRoomier l.initial.lists l.lists;
  turn : HasTurn l.counts.entries l.place-iterator (spare_at l.lists);
}
