use Rattle.std.proofs.Common.{◌≡◌, take}
use Rattle.fes_filter.proofs.ids.copy_ids.Given as goal

abbrev pub invariant-loop-id : goal.invariant-loop-id
invariant-loop-id l = l.all.items ≡ take l.id-index l.ids
