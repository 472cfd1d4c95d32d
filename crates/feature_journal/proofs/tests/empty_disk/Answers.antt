use Rattle.std.proofs.Common.{refl}
use Rattle.feature_journal.proofs.EmptyDisk.{empty_unused, empty_few}
use Rattle.feature_journal.proofs.tests.empty_disk.Goals as goal

pub returns-clause-unused : goal.returns-clause-unused
returns-clause-unused c = empty_unused c.new-2.result _ c.new.ensures.items refl c.new-2.ensures

pub returns-clause-few : goal.returns-clause-few
returns-clause-few c = empty_few c.new-2.result _ c.new.ensures.items refl c.new-2.ensures
