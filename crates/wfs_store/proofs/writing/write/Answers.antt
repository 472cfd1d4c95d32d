-- Where no change is written, the disks stay as they are, and stand for what they stood for.
use Rattle.std.proofs.Common.{inl}
use Rattle.disk_core.specs.Sides.Always.{once}
use Rattle.durable_journal.specs.Standing.{SaysEither}
use Rattle.feature_journal.specs.Kept.{disks_of}
use Rattle.feature_journal.proofs.Pairs.{within_still}
use Rattle.wfs_store.proofs.writing.write.Goals as goal

pub returns-in-None-clause-goes : goal.returns-in-None-clause-goes
returns-in-None-clause-goes g c schema kept keeps writable =
    let disks = disks_of c.args.journal.now in
    let stand = c.stands.ensures schema kept c.args.begun.now keeps in
    once disks disks (within_still g.D.Disk.moment g.D.Disk.since g.D.Disk.images g.met.D.Disk.counts g.met.D.Disk.only
    (SaysEither schema kept c.args.begun.now c.args.change.now) disks (λ x y at_a at_b. inl (stand x y at_a at_b)))
