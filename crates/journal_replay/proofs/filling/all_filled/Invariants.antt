use Rattle.std.proofs.Common.{◌≡◌, drop, []}
use Rattle.wfs_ends.specs.Read.{each}
use Rattle.journal_replay.specs.Change.{next_filled}
use Rattle.journal_replay.proofs.filling.all_filled.Given as goal

abbrev pub invariant-loop-one : goal.invariant-loop-one
invariant-loop-one l = each (next_filled l.schema) l.found.items (drop l.one-index l.stored) ≡ each (next_filled l.schema) [] l.stored
