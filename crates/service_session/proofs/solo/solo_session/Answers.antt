use Rattle.service_session.proofs.Answering.{tallies_answers}
use Rattle.service_session.proofs.Stores.{becomes_by, goes_by}
use Rattle.service_session.proofs.solo.solo_session.Goals as goal

pub returns-clause-becomes : goal.returns-clause-becomes
returns-clause-becomes g c = becomes_by g.D.Disk.moment g.D.Disk.since g.D.Disk.faults c.args.store.now c.session.new.service c.session.ensures.becomes.leads

pub returns-clause-tallies : goal.returns-clause-tallies
returns-clause-tallies g c =
    tallies_answers g.D.Disk.moment g.D.Disk.since g.D.Disk.faults c.args.store.now (g.L.Source.source c.args.link.now) c.session.result c.session.new.service
    (g.C.Clock.moments c.session.new.clock) (g.L.Source.source c.session.new.link)

pub returns-clause-goes : goal.returns-clause-goes
returns-clause-goes g c =
    goes_by g.D.Disk.moment g.D.Disk.since g.D.Disk.faults g.D.Disk.images g.met.D.Disk.counts g.met.D.Disk.only c.args.store.now c.session.new.service c.stands.ensures
    c.session.ensures.becomes.leads
