use Rattle.std.proofs.Common.{◌≡◌, ◌≤◌, ◌+◌, ◌-◌, All, map, length, vec_capacity}
use Rattle.std.specs.List.{range_with_len}
use Rattle.store_server.specs.Giving.{fresh_seat}
use Rattle.turnstile_core.specs.Seats.{name_of, past, IsFreeAt}
use Rattle.turnstile_core.specs.Steps.{fresh_past}
use Rattle.store_server.proofs.giving.give_seats.Given as goal

abbrev pub invariant-loop-first : goal.invariant-loop-first
invariant-loop-first g l = let origin = (past l.fn.first).origin in
    IsFreeAt (name_of l.fn.turnstile) l.first
    × (past l.first ≡ record (fresh_past origin) { given = length l.seats.items })
    × All (IsFreeAt (name_of l.fn.turnstile)) l.seats.items
    × (map past l.seats.items ≡ map (fresh_seat origin l.fn.many) (range_with_len 1 (length l.seats.items)))
    × (length l.seats.items + 1 ≤ l.fn.many)
    × (vec_capacity l.fn.seats ≤ vec_capacity l.seats)

abbrev pub decreases-loop-first : goal.decreases-loop-first
decreases-loop-first g l = l.fn.many - length l.seats.items
