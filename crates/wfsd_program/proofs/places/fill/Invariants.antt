use Rattle.std.proofs.Common.{◌≡◌, ◌+◌, ◌≤◌, ◌++◌, length, map, vec_capacity}
use Rattle.std.specs.Prelude.{All}
use Rattle.std.specs.Vec.Iter.{into_iter_items}
use Rattle.wfsd_program.proofs.places.fill.Given as goal

abbrev pub invariant-loop-acceptor : goal.invariant-loop-acceptor
invariant-loop-acceptor g l = record {
  split : l.yielded ++ into_iter_items l.acceptor-iterator ≡ l.fn.acceptors.items;
  acceptors : map (λ s. s.acceptor) l.slots.items ≡ l.yielded;
  clocks : length l.clocks.items + length l.yielded ≡ length l.fn.acceptors.items;
  left : All (λ c. g.C.Clock.moments c ≡ g.C.Clock.moments l._clock) l.clocks.items;
  twins : All (λ s. g.C.Clock.moments s.clock ≡ g.C.Clock.moments l._clock) l.slots.items;
  room : length l.fn.acceptors.items ≤ vec_capacity l.slots;
}
