use Rattle.std.proofs.Common.{◌≡◌, ◌+◌, ◌≤◌, length, take}
use Rattle.std.specs.HashMap.{spare}
use Rattle.feature_values.specs.declared.feature.Rid.{Rid}
use Rattle.lock_table.specs.Kept.{number_at, given_to}
use Rattle.lock_table.proofs.holders.Holders.give.Given as goal

abbrev pub invariant-loop-feature : goal.invariant-loop-feature
invariant-loop-feature l = record {
  held : (f : Rid) → number_at l.self.numbers f ≡ given_to l.number (take l.feature-index l.features) (number_at l.initial.self.numbers) f;
  room : length l.features ≤ spare l.self.numbers + l.feature-index;
}
