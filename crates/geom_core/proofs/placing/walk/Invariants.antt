use Rattle.std.proofs.Common.{◌≤◌}
use Rattle.geom_core.proofs.Walks.{Walked}
use Rattle.geom_core.proofs.placing.walk.Given as goal

abbrev pub invariant-loop-next : goal.invariant-loop-next
invariant-loop-next l = record {
  walked : Walked l.p l.fn.last l.path l.last l.next-index l.crossed;
  few : l.crossed ≤ l.next-index;
}
