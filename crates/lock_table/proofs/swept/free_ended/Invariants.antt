use Rattle.std.proofs.Common.{◌≤◌, ℕ, take}
use Rattle.std.specs.HashMap.{spare, hash_map_len}
use Rattle.std.specs.List.{AllByRecursion}
use Rattle.lock_table.specs.Kept.{number_at, IsFreed, AreKept}
use Rattle.lock_table.proofs.swept.free_ended.Given as goal

abbrev pub invariant-loop-lock : goal.invariant-loop-lock
invariant-loop-lock l = record {
  kept : (given : ℕ) → AreKept l.last given (number_at l.initial.holders.numbers) l.locks → AreKept l.last given (number_at l.holders.numbers) l.locks;
  freed : AllByRecursion (IsFreed l.last (number_at l.holders.numbers)) (take l.lock-index l.locks);
  mapped : hash_map_len l.holders.numbers ≤ hash_map_len l.initial.holders.numbers;
  room : spare l.initial.holders.numbers ≤ spare l.holders.numbers;
}
