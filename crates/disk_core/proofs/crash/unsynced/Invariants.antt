use Rattle.std.proofs.Common.{◌≡◌, ◌≤◌, ℕ, List, drop}
use Rattle.disk_core.specs.Memory.{steps_of, unsynced_from}
use Rattle.disk_core.proofs.crash.unsynced.Given as goal

abbrev pub invariant-loop-call : goal.invariant-loop-call
invariant-loop-call l = (l.count ≤ l.call-index) × ((text : List ℕ) → unsynced_from l.count (steps_of text (drop l.call-index l.log)) ≡ unsynced_from 0 (steps_of text l.log))
