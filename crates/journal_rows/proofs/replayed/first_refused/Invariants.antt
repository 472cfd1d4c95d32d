use Rattle.std.proofs.Common.{◌≡◌, length}
use Rattle.journal_rows.proofs.replayed.first_refused.Given as goal

abbrev pub invariant-loop-i : goal.invariant-loop-i
invariant-loop-i l = l.i ≡ length l.replay.taken
