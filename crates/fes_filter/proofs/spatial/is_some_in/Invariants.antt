use Rattle.std.proofs.Common.{◌≡◌, false, take}
use Rattle.std.specs.List.{list_any}
use Rattle.fes_filter.specs.Truth.{is_in}
use Rattle.fes_filter.proofs.spatial.is_some_in.Given as goal

abbrev pub invariant-loop-value : goal.invariant-loop-value
invariant-loop-value l = list_any (is_in l.area) (take l.value-index l.values) ≡ false
