-- Seats before their first turn.
use Rattle.std.specs.Prelude.{ℕ, zero, suc, ◌-◌, List, map}
use Rattle.std.specs.List.{range_with_len}
use Rattle.turnstile_core.specs.Steps.{fresh_past}
use Rattle.turnstile_core.specs.declared.view.Past.{Past}

-- how many numbers the seat with this number has given, where there are so many seats: number 0 gave all others
abbrev pub given_by : ℕ → ℕ → ℕ
given_by many zero = many - 1
given_by many (suc number) = 0

module _ {T E : Type 0} where
  -- the seat with this number, of so many, at a turnstile that began with this: it has seen nothing
  abbrev pub fresh_seat : List T → ℕ → ℕ → Past T E
  fresh_seat origin many number = record (fresh_past origin) { number = number; given = given_by many number }

  -- all of them, in the order of their numbers
  abbrev pub fresh_seats : List T → ℕ → List (Past T E)
  fresh_seats origin many = map (fresh_seat origin many) (range_with_len 0 many)
