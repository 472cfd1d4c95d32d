-- No more is shown than there is.
use Rattle.std.proofs.Common.{arith}
use Rattle.shared_store.proofs.counter.CounterKept.shown.Goals as goal

pub returns-clause-below : goal.returns-clause-below
returns-clause-below g c = omega arith
