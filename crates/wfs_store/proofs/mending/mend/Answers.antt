-- What was begun is ended, or still begun.
use Rattle.std.proofs.Common.{inl}
use Rattle.durable_journal.proofs.Changing.{keeps_stands, ended, still_begun, ending_goes}
use Rattle.wfs_store.proofs.mending.mend.Goals as goal

pub repair-requires : goal.repair-requires
repair-requires g c = keeps_stands g.D.Disk.images c.args.journal.now c.requires.0 c.requires.1 c.args.begun.now c.requires.2

pub returns-in-Ok-clause-done : goal.returns-in-Ok-clause-done
returns-in-Ok-clause-done g c schema kept keeps =
    inl (ended g.D.Disk.images schema kept c.args.journal.now c.repair.new.self (λ bodies rests. (c.repair.ensures.nothing bodies rests).1)
    c.in-Ok.ensures.done c.in-Ok.ensures.done_side c.args.begun.now keeps)

pub returns-in-Ok-clause-goes : goal.returns-in-Ok-clause-goes
returns-in-Ok-clause-goes g c schema kept keeps =
    ending_goes g.D.Disk.moment g.D.Disk.since g.D.Disk.images g.met.D.Disk.counts g.met.D.Disk.only schema kept c.args.journal.now c.repair.new.self
    (λ bodies rests. (c.repair.ensures.nothing bodies rests).1) c.repair.ensures.goes c.repair.ensures.goes_side c.args.begun.now keeps

pub returns-in-Err-clause-fault : goal.returns-in-Err-clause-fault
returns-in-Err-clause-fault g c schema kept keeps =
    still_begun g.D.Disk.images schema kept c.args.journal.now c.repair.new.self (λ bodies rests. (c.repair.ensures.nothing bodies rests).1)
    c.in-Err.ensures.fault c.in-Err.ensures.fault_side c.args.begun.now keeps

pub returns-in-Err-clause-goes : goal.returns-in-Err-clause-goes
returns-in-Err-clause-goes g c schema kept keeps =
    ending_goes g.D.Disk.moment g.D.Disk.since g.D.Disk.images g.met.D.Disk.counts g.met.D.Disk.only schema kept c.args.journal.now c.repair.new.self
    (λ bodies rests. (c.repair.ensures.nothing bodies rests).1) c.repair.ensures.goes c.repair.ensures.goes_side c.args.begun.now keeps
