-- Texts that lie in place.
use Rattle.std.specs.Prelude.{ℕ}

-- the most bytes of such a text
abbrev pub max_in_place : ℕ
max_in_place = 14
