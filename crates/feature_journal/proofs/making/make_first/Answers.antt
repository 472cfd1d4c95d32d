use Rattle.std.proofs.Common.{false, subst}
use Rattle.feature_journal.specs.Made.{Made}
use Rattle.feature_journal.proofs.First.{header, unused_idle, first_goes, first_held}
use Rattle.feature_journal.proofs.making.make_first.Goals as goal

pub returns-clause-goes : goal.returns-clause-goes
returns-clause-goes g c =
    first_goes g.D.Disk.moment g.D.Disk.since g.D.Disk.images g.met.D.Disk.counts g.met.D.Disk.only c.args.disks.now c.make_on.new.disk c.requires.1 (c.make_on.ensures.goes false 0 (unused_idle false 0 _ c.requires.0))

pub returns-clause-done : goal.returns-clause-done
returns-clause-done g c done =
    first_held g.D.Disk.images c.args.disks.now c.make_on.new.disk c.requires.1 (subst (λ m. Made false 0 header m (g.D.Disk.images c.make_on.new.disk)) done (c.make_on.ensures.now false 0 (unused_idle false 0 _ c.requires.0)))
