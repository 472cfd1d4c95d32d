use Rattle.std.proofs.Common.{◌≡◌, take}
use Rattle.std.specs.List.{sum_by}
use Rattle.grid_index.specs.Lists.{count_in}
use Rattle.grid_index.specs.Places.{Place, taking}
use Rattle.grid_index.proofs.reserving.counts_of.Given as goal

abbrev pub invariant-loop-area : goal.invariant-loop-area
invariant-loop-area l = (q : Place) → count_in l.counts q ≡ sum_by (taking q) (take l.area-index l.areas)
