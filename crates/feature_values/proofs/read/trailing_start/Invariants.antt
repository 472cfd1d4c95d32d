use Rattle.std.proofs.Common.{◌≡◌, ◌+◌, ◌-◌, ◌≤◌, length, take}
use Rattle.std.specs.List.{suffix_len}
use Rattle.feature_values.specs.Reads.{is_space}
use Rattle.feature_values.proofs.read.trailing_start.Given as goal

abbrev pub invariant-loop-end : goal.invariant-loop-end
invariant-loop-end l = (l.end ≤ length l.bytes) × (suffix_len is_space (take l.end l.bytes) + (length l.bytes - l.end) ≡ suffix_len is_space l.bytes)

abbrev pub decreases-loop-end : goal.decreases-loop-end
decreases-loop-end l = l.end
