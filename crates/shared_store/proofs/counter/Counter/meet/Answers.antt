-- What a viewer has found is of the history.
use Rattle.std.proofs.Common.{arith}
use Rattle.snapshot_reads.specs.Publishers.{given_of}
use Rattle.snapshot_reads.specs.Viewers.{entered_of}
use Rattle.shared_store.proofs.Counting.{stand_of}
use Rattle.shared_store.proofs.counter.Counter.meet.Goals as goal

pub returns-in-Some-clause-known : goal.returns-in-Some-clause-known
returns-in-Some-clause-known g c =
    let x = c.args.self.now in
    stand_of x.store (given_of x.publisher) (entered_of c.meet_all.new.viewer) (omega (arith, c.requires.settled.given)) c.requires.settled.pairs c.meet_all.ensures.known
