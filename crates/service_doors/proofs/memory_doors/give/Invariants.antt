use Rattle.std.proofs.Common.{◌≡◌, ◌≤◌, drop, vec_capacity}
use Rattle.service_doors.specs.Listening.{first_of}
use Rattle.service_doors.specs.Memory.{no_links}
use Rattle.service_doors.proofs.memory_doors.give.Given as goal

abbrev pub invariant-loop-worker : goal.invariant-loop-worker
invariant-loop-worker l = record {
  given : l.given.items ≡ first_of no_links l._worker l.fn.waiting.items;
  rest : l.waiting.items ≡ drop l._worker l.fn.waiting.items;
  room : l.workers ≤ vec_capacity l.given;
}
