use Rattle.std.proofs.Common.{◌≡◌, ◌≤◌, length, take}
use Rattle.lock_table.specs.Held.{live}
use Rattle.lock_table.proofs.swept.live_count.Given as goal

abbrev pub invariant-loop-lock : goal.invariant-loop-lock
invariant-loop-lock l = (l.count ≤ l.lock-index) × (l.count ≡ length (live l.moment (take l.lock-index l.locks)))
