use Rattle.std.proofs.Common.{◌≡◌}
use Rattle.drill_requests.specs.Requests.{requests_before}
use Rattle.drill_requests.specs.Rounds.{seed_after}
use Rattle.wfsd_commands.specs.Drilling.{HasCome}
use Rattle.wfsd_commands.proofs.drilling.run.Given as goal

abbrev pub invariant-loop-number : goal.invariant-loop-number
invariant-loop-number g l = record {
  seed : l.seed ≡ seed_after l.fn.rounds l.number;
  schema : l.store.schema ≡ l.fn.schema;
  come : HasCome g.D.Disk.faults l.fn.store (requests_before l.fn.schema l.fn.rounds l.number) l.sums l.store;
}
