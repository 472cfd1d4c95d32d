use Rattle.std.proofs.Common.{◌≡◌, false, take}
use Rattle.std.specs.List.{list_any}
use Rattle.fes_filter.specs.Truth.{is_of}
use Rattle.fes_filter.proofs.ids.is_among.Given as goal

abbrev pub invariant-loop-reference : goal.invariant-loop-reference
invariant-loop-reference l = list_any (is_of l.id) (take l.reference-index l.references) ≡ false
