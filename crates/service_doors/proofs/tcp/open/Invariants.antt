use Rattle.std.proofs.Common.{◌≡◌, ◌≤◌, length, vec_capacity}
use Rattle.std.specs.List.{All}
use Rattle.service_doors.specs.Accepting.{untold, IsNew}
use Rattle.service_doors.proofs.tcp.open.Given as goal

abbrev pub invariant-loop-worker : goal.invariant-loop-worker
invariant-loop-worker g l = record {
  number : length l.acceptors.items ≡ l._worker;
  fresh : All (λ a. IsNew (untold a.out a.finished a.faults)) l.acceptors.items;
  room : l.workers ≤ vec_capacity l.acceptors;
}
