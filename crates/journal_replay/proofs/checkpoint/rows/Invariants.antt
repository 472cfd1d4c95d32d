use Rattle.std.proofs.Common.{◌-◌, length}
use Rattle.journal_replay.proofs.Gathering.{Gathers}
use Rattle.journal_replay.proofs.checkpoint.rows.Given as goal

abbrev pub invariant-loop-alloc : goal.invariant-loop-alloc
invariant-loop-alloc l = Gathers 1_000 l.features.kept.features l.fn.after l.last l.parts.items

abbrev pub decreases-loop-alloc : goal.decreases-loop-alloc
decreases-loop-alloc l = 1_000 - length l.parts.items
