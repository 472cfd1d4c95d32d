-- The identifiers of locks. That an identifier is written `lock-E-N` is this project's own.
use Rattle.std.specs.Prelude.{ℕ, Bool, if◌then◌else◌, ◌==◌, List, option_map, Option, None, codes}
use Rattle.std.specs.Option.{option_and_then}
use Rattle.std.specs.List.{before_first, after_first}
use Rattle.std.specs.Str.{bytes_eq}
use Rattle.feature_values.specs.Ids.{number_of}
use Rattle.lock_table.specs.declared.id.LockId.{LockId}

abbrev pub is_dash : ℕ → Bool
is_dash b = b == 45

abbrev pub is_lock : List ℕ → Bool
is_lock word = bytes_eq word (codes "lock")

-- two numbers with a dash between them
unfoldable pub numbers_of : List ℕ → Option LockId
numbers_of text =
    option_and_then (λ number. option_map (λ opening. record { opening = opening; number = number }) (number_of (before_first is_dash text))) (number_of (after_first is_dash text))

-- the word `lock`, a dash, the number of an opening, a dash, and the number of a lock in it
unfoldable pub id_of : List ℕ → Option LockId
id_of text = if is_lock (before_first is_dash text) then numbers_of (after_first is_dash text) else None
