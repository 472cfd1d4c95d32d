use Rattle.std.proofs.Common.{◌≡◌}
use Rattle.paged_list.proofs.freeze.freeze_parts.Given as goal

abbrev pub invariant-loop-place : goal.invariant-loop-place
invariant-loop-place g l = l.parts.items ≡ l.fn.parts.items
