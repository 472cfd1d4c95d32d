use Rattle.std.proofs.Common.{◌≡◌, ◌+◌}
use Rattle.grid_index.specs.Counts.{one_if}
use Rattle.grid_index.specs.Lists.{count_in}
use Rattle.grid_index.specs.Places.{Place, place_at, is_among_first}
use Rattle.grid_index.proofs.reserving.count_box.Given as goal

abbrev pub invariant-loop-i : goal.invariant-loop-i
invariant-loop-i l = (q : Place) → count_in l.counts q ≡ count_in l.initial.counts q + one_if (is_among_first l.i (place_at l.area) q)
