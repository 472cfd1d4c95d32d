-- The rounds of a drill: a number fixes them, over the types of a schema.
use Rattle.std.specs.Prelude.{ℕ, zero, suc, ◌+◌, ◌*◌, ◌%◌, length}
use Rattle.feature_values.specs.declared.schema.Schema.{Schema}
use Rattle.drill_requests.specs.Drawn.{Drawn}

-- Numbers are drawn from a seed. Each draw moves the seed on, and gives 15 times what it then is.
abbrev pub moved : ℕ → ℕ
moved seed = (75 * seed + 74) % 65_537

abbrev pub drawn : ℕ → ℕ
drawn seed = 15 * moved seed

-- the seed behind so many rounds, each of which draws two numbers; at first it is this
unfoldable pub seed_after : ℕ → ℕ → ℕ
seed_after first zero = first
seed_after first (suc n) = moved (moved (seed_after first n))

-- a round takes the next type, and is at the place that its two numbers give
abbrev pub round_at : Schema → (number seed : ℕ) → Drawn
round_at schema number seed = record { number = number; kind = number % length schema.types; x = drawn seed; y = drawn (moved seed) }

-- the round of this number, in a drill of so many
abbrev pub round_of : Schema → (rounds number : ℕ) → Drawn
round_of schema rounds number = round_at schema number (seed_after rounds number)
