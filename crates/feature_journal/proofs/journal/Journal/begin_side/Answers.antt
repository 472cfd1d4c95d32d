use Rattle.std.proofs.Common.{arith}
use Rattle.feature_journal.proofs.Added.{side_long}
use Rattle.feature_journal.proofs.NextSide.{spare_goes, beside_now}
use Rattle.feature_journal.proofs.journal.Journal.begin_side.Goals as goal

pub returns-in-Ok-clause-goes : goal.returns-in-Ok-clause-goes
returns-in-Ok-clause-goes g c bodies rests = spare_goes g.D.Disk.moment g.D.Disk.since g.D.Disk.images g.met.D.Disk.counts g.met.D.Disk.only _ _ _ bodies _ _ rests.held (c.begin_to.ensures.goes _ _ rests.held.beside) c.begin_to.ensures.same

pub returns-in-Ok-clause-rests : goal.returns-in-Ok-clause-rests
returns-in-Ok-clause-rests g c bodies rests = record {
  begun = rests.begun;
  held = beside_now g.D.Disk.images _ _ _ bodies _ _ rests.held (c.begin_to.ensures.still _ _ rests.held.beside) c.begin_to.ensures.same;
  within = rests.within;
  limit = rests.limit;
}

pub returns-in-Ok-clause-begun : goal.returns-in-Ok-clause-begun
returns-in-Ok-clause-begun g c bodies rests = record {
  rests = returns-in-Ok-clause-rests g c bodies rests;
  making = c.in-Ok.ensures.begun;
  room = omega (arith, rests.within, rests.held.size, side_long c.args.self.now.generation bodies);
}

pub returns-in-Err-clause-goes : goal.returns-in-Err-clause-goes
returns-in-Err-clause-goes g c bodies rests = spare_goes g.D.Disk.moment g.D.Disk.since g.D.Disk.images g.met.D.Disk.counts g.met.D.Disk.only _ _ _ bodies _ _ rests.held (c.begin_to.ensures.goes _ _ rests.held.beside) c.begin_to.ensures.same

pub returns-in-Err-clause-rests : goal.returns-in-Err-clause-rests
returns-in-Err-clause-rests g c bodies rests = record {
  begun = rests.begun;
  held = beside_now g.D.Disk.images _ _ _ bodies _ _ rests.held (c.begin_to.ensures.still _ _ rests.held.beside) c.begin_to.ensures.same;
  within = rests.within;
  limit = rests.limit;
}
