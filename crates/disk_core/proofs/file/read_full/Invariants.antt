use Rattle.std.proofs.Common.{◌≤◌, ◌≡◌, length}
use Rattle.disk_core.proofs.file.read_full.Given as goal

abbrev pub invariant-loop : goal.invariant-loop
invariant-loop l = (l.done ≤ length l.into) × (length l.into ≡ length l.fn.into)
