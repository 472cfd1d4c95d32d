use Rattle.std.proofs.Common.{refl}
use Rattle.feature_journal.proofs.EmptyDisk.{empty_unused}
use Rattle.journal_rows.proofs.copies.empty_disk.Goals as goal

pub returns : goal.returns
returns c = empty_unused c.new-2.result _ c.new.ensures.items refl c.new-2.ensures
