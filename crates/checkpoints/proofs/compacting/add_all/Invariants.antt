use Rattle.std.proofs.Common.{length}
use Rattle.checkpoints.proofs.Adding.{Adding}
use Rattle.checkpoints.proofs.compacting.add_all.Given as goal

abbrev pub invariant-loop-journal : goal.invariant-loop-journal
invariant-loop-journal g l = Adding g.D.Disk.shown g.D.Disk.moment g.D.Disk.since g.D.Disk.images g.D.Disk.faults l.fn.journal l.journal (g.R.RecordSource.left l.fn.records) (g.R.RecordSource.left l.records)

abbrev pub decreases-loop-journal : goal.decreases-loop-journal
decreases-loop-journal g l = length (g.R.RecordSource.left l.records)
