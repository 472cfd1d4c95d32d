use Rattle.std.proofs.Common.{sym}
use Rattle.wfsd_program.proofs.ending.has_failed.Goals as goal

pub returns-then-is_failure : goal.returns-then-is_failure
returns-then-is_failure g c = (c.loop-worker.worker-index, c.worker-item.result, c.loop-worker-test.true, sym c.worker-item.is, rw c.if-is_failure.true at c.is_failure.ensures)
