use Rattle.std.proofs.Common.{ℕ, ◌<◌, slice_index_or}
use Rattle.wfsd_program.specs.Statuses.{HasEndedWell}
use Rattle.wfsd_program.proofs.ending.has_failed.Given as goal

abbrev pub invariant-loop-worker : goal.invariant-loop-worker
invariant-loop-worker g l = (k : ℕ) (d : _) → k < l.worker-index → HasEndedWell (slice_index_or l.workers k d)
