use Rattle.std.proofs.Common.{[]}
use Rattle.disk_core.proofs.Runs.{goes_on}
use Rattle.feature_journal.specs.Whole.{Harmless}
use Rattle.feature_journal.proofs.Added.{shut_goes}
use Rattle.feature_journal.proofs.adding.begin_on.Goals as goal

pub returns-clause-goes : goal.returns-clause-goes
returns-clause-goes g c is_b current idle =
    goes_on g.D.Disk.moment g.D.Disk.since g.D.Disk.images (Harmless is_b current []) c.args.disk.now c.clear_on.new.disk c.head_on.new.disk (c.clear_on.ensures.goes is_b current idle)
    (shut_goes g.D.Disk.moment g.D.Disk.since g.D.Disk.images is_b current c.clear_on.new.disk c.head_on.new.disk c.in_ok-clear_on.ensures.cleared c.head_on.ensures.kept)
