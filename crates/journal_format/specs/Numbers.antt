-- Numbers of a record: the highest byte first.
use Rattle.std.specs.Prelude.{ℕ, ◌<◌, List, [], ◌∷◌, All, length, drop, nat_lt, if◌then◌else◌, Result, Ok, Err}
use Rattle.byteorder.specs.Endian.{big_bytes, big_number}
use Rattle.journal_format.specs.declared.fault.RecordFault.{RecordFault}
use Rattle.journal_format.specs.declared.fault.RecordFault.TheVariants.{Cut}

-- numbers below 256
abbrev pub AreBytes : List ℕ → Type 0
AreBytes bytes = All (λ b. b < 256) bytes

-- the lowest n bytes of x, the highest of them first
unfoldable pub be : ℕ → ℕ → List ℕ
be n x = big_bytes n x

-- a value and the bytes behind it, or the first fault
abbrev pub Reads : Type 0 → Type 0
Reads A = Result (A × List ℕ) RecordFault

unfoldable pub first_of : List ℕ → Reads ℕ
first_of [] = Err Cut
first_of (b ∷ bytes) = Ok (b, bytes)

-- the number in the next n bytes
unfoldable pub number_at : ℕ → List ℕ → Reads ℕ
number_at n bytes = if nat_lt (length bytes) n then Err Cut else Ok (big_number n bytes, drop n bytes)
