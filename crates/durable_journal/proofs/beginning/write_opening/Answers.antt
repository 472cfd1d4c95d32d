use Rattle.feature_journal.specs.Kept.{disks_of}
use Rattle.durable_journal.proofs.Openings.{kept_opens, then_opens}
use Rattle.durable_journal.proofs.OpeningSides.{begun_then}
use Rattle.durable_journal.proofs.beginning.write_opening.Goals as goal

pub returns-in-Err-clause-goes : goal.returns-in-Err-clause-goes
returns-in-Err-clause-goes g c =
    kept_opens g.D.Disk.moment g.D.Disk.since c.args.features.now.schema c.args.features.now.kept (disks_of c.args.journal.now) (disks_of c.shorten_long.new.journal) c.shorten_long.ensures.goes

pub returns-in-Ok-clause-goes : goal.returns-in-Ok-clause-goes
returns-in-Ok-clause-goes g c =
    then_opens g.D.Disk.moment g.D.Disk.since c.args.features.now.schema c.args.features.now.kept (disks_of c.args.journal.now) (disks_of c.shorten_long.new.journal) (disks_of c.append_opening.new.journal) c.shorten_long.ensures.goes c.append_opening.ensures.goes

pub returns-in-Ok-clause-begun : goal.returns-in-Ok-clause-begun
returns-in-Ok-clause-begun g c =
    begun_then g.D.Disk.images c.args.features.now.schema c.args.features.now.kept c.args.journal.now c.shorten_long.new.journal c.append_opening.new.journal c.append_opening.result c.in-Ok.ensures.room c.append_opening.ensures.appended c.append_opening.ensures.current c.append_opening.ensures.longer
