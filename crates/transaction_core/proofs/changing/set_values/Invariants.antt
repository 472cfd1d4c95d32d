use Rattle.std.proofs.Common.{◌≡◌, take}
use Rattle.std.specs.List.{fold}
use Rattle.wfs_model.specs.Acts.{with_value}
use Rattle.transaction_core.proofs.changing.set_values.Given as goal

abbrev pub invariant-loop-set : goal.invariant-loop-set
invariant-loop-set l = l.values ≡ fold with_value l.initial.values (take l.set-index l.sets)
