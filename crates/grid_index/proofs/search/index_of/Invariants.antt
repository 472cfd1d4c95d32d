use Rattle.std.proofs.Common.{◌≡◌, take}
use Rattle.grid_index.specs.Counts.{times}
use Rattle.grid_index.proofs.search.index_of.Given as goal

abbrev pub invariant-loop-i : goal.invariant-loop-i
invariant-loop-i l = times (l.id, l.area) (take l.i l.pairs) ≡ 0
