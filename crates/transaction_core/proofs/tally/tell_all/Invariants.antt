use Rattle.std.proofs.Common.{◌≡◌, ◌++◌, map, take}
use Rattle.wfs_model.specs.Acts.{told}
use Rattle.transaction_core.proofs.tally.tell_all.Given as goal

abbrev pub invariant-loop-id : goal.invariant-loop-id
invariant-loop-id l = l.made.items ≡ l.initial.made.items ++ map (told l.handle) (take l.id-index l.ids)
