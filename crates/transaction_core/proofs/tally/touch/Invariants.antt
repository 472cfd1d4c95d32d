use Rattle.std.proofs.Common.{◌≡◌, ◌++◌, take}
use Rattle.transaction_core.proofs.tally.touch.Given as goal

abbrev pub invariant-loop-id : goal.invariant-loop-id
invariant-loop-id l = l.touched.items ≡ l.initial.touched.items ++ take l.id-index l.ids
