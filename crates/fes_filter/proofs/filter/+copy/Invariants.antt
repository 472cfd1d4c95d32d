use Rattle.std.proofs.Common.{◌≡◌, take}
use Rattle.fes_filter.proofs.filter.+copy.Given as goal

abbrev pub invariant-copy_parts-loop-part : goal.invariant-copy_parts-loop-part
invariant-copy_parts-loop-part l = l.all.items ≡ take l.part-index l.part-items
