use Rattle.std.proofs.Common.{◌≡◌, ◌≤◌, take}
use Rattle.std.specs.HashMap.{spare, hash_map_len}
use Rattle.feature_values.specs.declared.feature.Rid.{Rid}
use Rattle.lock_table.specs.Kept.{number_at, freed_of}
use Rattle.lock_table.proofs.holders.Holders.free.Given as goal

abbrev pub invariant-loop-feature : goal.invariant-loop-feature
invariant-loop-feature l = record {
  freed : (f : Rid) → number_at l.self.numbers f ≡ freed_of l.number (take l.feature-index l.features) (number_at l.initial.self.numbers) f;
  len : hash_map_len l.self.numbers ≤ hash_map_len l.initial.self.numbers;
  room : spare l.initial.self.numbers ≤ spare l.self.numbers;
}
