use Rattle.std.proofs.Common.{◌≤◌}
use Rattle.fes_filter.specs.LikePlace.{NoManyBefore}
use Rattle.fes_filter.proofs.places.longest_run.Given as goal

abbrev pub invariant-loop-i : goal.invariant-loop-i
invariant-loop-i l = record {
  best : l.best ≤ l.i;
  start : l.start ≤ l.i;
  longest : l.longest ≤ l.i;
  before : NoManyBefore l.parts l.i;
}
