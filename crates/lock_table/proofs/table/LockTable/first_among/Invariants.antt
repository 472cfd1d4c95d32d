use Rattle.std.proofs.Common.{◌≡◌, drop}
use Rattle.lock_table.specs.Held.{first_of, held_one}
use Rattle.lock_table.proofs.table.LockTable.first_among.Given as goal

abbrev pub invariant-loop-feature : goal.invariant-loop-feature
invariant-loop-feature l = first_of (held_one l.self.locks l.moment) (drop l.feature-index l.features) ≡ first_of (held_one l.self.locks l.moment) l.features
