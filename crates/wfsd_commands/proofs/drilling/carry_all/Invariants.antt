use Rattle.std.proofs.Common.{◌≡◌, ◌++◌, All}
use Rattle.std.specs.Vec.Iter.{into_iter_items}
use Rattle.drill_requests.specs.Fitting.{IsOneOf}
use Rattle.wfsd_commands.proofs.Drills.{Since}
use Rattle.wfsd_commands.proofs.drilling.carry_all.Given as goal

abbrev pub invariant-loop-request : goal.invariant-loop-request
invariant-loop-request g l = record {
  split : l.yielded ++ into_iter_items l.request-iterator ≡ l.fn.requests.items;
  of : All (IsOneOf l.fn.store.schema) (into_iter_items l.request-iterator);
  schema : l.store.schema ≡ l.fn.store.schema;
  since : Since g.D.Disk.faults l.fn.store l.fn.sums l.yielded l.store l.sums;
}
