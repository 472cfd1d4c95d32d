use Rattle.std.proofs.Common.{◌≡◌, ◌++◌, filter, not, take}
use Rattle.query_core.specs.Selecting.{is_among}
use Rattle.query_core.proofs.joining.append_new.Given as goal

abbrev pub invariant-loop-id : goal.invariant-loop-id
invariant-loop-id l = l.all.items ≡ l.initial.all.items ++ filter (λ id. not (is_among l.sorted id)) (take l.id-index l.more)
