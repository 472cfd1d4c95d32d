use Rattle.std.proofs.Common.{◌≡◌, true, false, take}
use Rattle.std.specs.List.{list_all, list_any}
use Rattle.fes_filter.specs.Truth.{truth_of}
use Rattle.fes_filter.proofs.truths.+holds.Given as goal

abbrev pub invariant-do_all_hold-loop-part : goal.invariant-do_all_hold-loop-part
invariant-do_all_hold-loop-part l = list_all (truth_of l.feature) (take l.part-index l.part-items) ≡ true

abbrev pub invariant-does_any_hold-loop-part : goal.invariant-does_any_hold-loop-part
invariant-does_any_hold-loop-part l = list_any (truth_of l.feature) (take l.part-index l.part-items) ≡ false
