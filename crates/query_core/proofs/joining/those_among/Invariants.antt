use Rattle.std.proofs.Common.{◌≡◌, filter, take}
use Rattle.query_core.specs.Selecting.{is_among}
use Rattle.query_core.proofs.joining.those_among.Given as goal

abbrev pub invariant-loop-id : goal.invariant-loop-id
invariant-loop-id l = l.found.items ≡ filter (is_among l.sorted) (take l.id-index l.ids)
