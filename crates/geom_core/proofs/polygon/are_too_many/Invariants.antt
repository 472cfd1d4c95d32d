use Rattle.std.proofs.Common.{◌≡◌, ◌≤◌, ◌+◌, take, length}
use Rattle.std.specs.List.{sum_by}
use Rattle.geom_core.proofs.polygon.are_too_many.Given as goal

abbrev pub invariant-loop-hole : goal.invariant-loop-hole
invariant-loop-hole l = record {
  total : l.total ≡ length l.shell + sum_by length (take l.hole-index l.holes);
  few : l.total ≤ 10_000;
}
