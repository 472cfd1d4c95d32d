use Rattle.std.proofs.Common.{◌≡◌, ◌≤◌, ◌+◌, length, drop, vec_capacity}
use Rattle.std.specs.List.{AllByRecursion}
use Rattle.disk_core.specs.Story.{read_after_all}
use Rattle.disk_core.specs.Memory.{steps_of, IsWithin, written_size}
use Rattle.disk_core.proofs.crash.redo_all.Given as goal

abbrev pub invariant-loop-call : goal.invariant-loop-call
invariant-loop-call l = (read_after_all l.bytes.items (steps_of l.text (drop l.call-index l.log)) ≡ read_after_all l.fn.bytes.items (steps_of l.text l.log)) × ((length l.bytes.items + written_size (drop l.call-index l.log) ≤ vec_capacity l.fn.bytes) × ((vec_capacity l.fn.bytes ≤ vec_capacity l.bytes) × AllByRecursion (IsWithin (length l.text)) (drop l.call-index l.log)))
