use Rattle.std.proofs.Common.{◌≡◌, ◌+◌, drop}
use Rattle.feature_journal.specs.Side.{mark}
use Rattle.feature_journal.specs.Recover.{differs_at}
use Rattle.recovery.proofs.head.differing.Given as goal

abbrev pub invariant-loop-i : goal.invariant-loop-i
invariant-loop-i l = differs_at (1 + l.i) (drop l.i mark) (drop (1 + l.i) l.head) ≡ differs_at 1 mark (drop 1 l.head)
