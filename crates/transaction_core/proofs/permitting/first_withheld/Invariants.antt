use Rattle.std.proofs.Common.{◌≡◌, drop}
use Rattle.std.specs.List.{find}
use Rattle.wfs_model.specs.Plans.{is_withheld}
use Rattle.transaction_core.proofs.permitting.first_withheld.Given as goal

abbrev pub invariant-loop-feature : goal.invariant-loop-feature
invariant-loop-feature l =
    let withheld = is_withheld l.guard.locks.now.locks l.guard.moment l.guard.number in
    find withheld (drop l.feature-index l.touched) ≡ find withheld l.touched
