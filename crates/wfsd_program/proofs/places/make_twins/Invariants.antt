use Rattle.std.proofs.Common.{◌≡◌, length}
use Rattle.std.specs.Prelude.{All}
use Rattle.wfsd_program.proofs.places.make_twins.Given as goal

abbrev pub invariant-loop-worker : goal.invariant-loop-worker
invariant-loop-worker g l = record {
  number : length l.clocks.items ≡ l._worker;
  twins : All (λ c. g.C.Clock.moments c ≡ g.C.Clock.moments l.clock) l.clocks.items;
}
