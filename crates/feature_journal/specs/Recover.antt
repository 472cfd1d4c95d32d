-- What two byte strings stand for. Numbers are big-endian.
use Rattle.std.specs.Prelude.{◌+◌, ◌-◌, ◌&&◌, ◌==◌, ℕ, zero, suc, List, [], ◌∷◌, length, take, drop, get_or, Bool, true, false, cond, Option, Some, None, nat_lt, if◌then◌else◌}
use Rattle.std.specs.Int.{from_be_bytes, w32, w64}
use Rattle.feature_journal.specs.Side.{mark}
use Rattle.feature_journal.specs.Whole.{Ends}
use Rattle.feature_journal.specs.Whole.Ends.{closed, tail}

-- behind a gate: a body of n bytes, and what begins with the next gate, where so much is there
unfoldable pub body_with : ℕ → List ℕ → Option (List ℕ × List ℕ)
body_with n bytes = if nat_lt (length bytes) (5 + n) then None else Some (take n (drop 4 bytes), drop (4 + n) bytes)

-- the length stands in four bytes in front of the body
unfoldable pub body_at : List ℕ → Option (List ℕ × List ℕ)
body_at bytes = body_with (from_be_bytes w32 (take 4 bytes)) bytes

-- a body before those that are read behind it
abbrev pub and_then : (List ℕ → List (List ℕ) × List ℕ) → List ℕ → Option (List ℕ × List ℕ) → List (List ℕ) × List ℕ
and_then read bytes None = ([], bytes)
and_then read bytes (Some x) = (x.0 ∷ (read x.1).0, (read x.1).1)

-- The bodies behind open gates, up to the first gate that is not open or has no whole record behind it, and what begins
-- with that gate. At most n records are read.
unfoldable pub records_at : ℕ → List ℕ → List (List ℕ) × List ℕ
records_at zero bytes = ([], bytes)
records_at (suc n) [] = ([], [])
records_at (suc n) (gate ∷ bytes) = if gate == 1 then and_then (records_at n) (gate ∷ bytes) (body_at bytes) else ([], gate ∷ bytes)

-- the first place at which the bytes are not this text
unfoldable pub differs_at : ℕ → List ℕ → List ℕ → Option ℕ
differs_at place [] bytes = None
differs_at place (x ∷ text) [] = Some place
differs_at place (x ∷ text) (y ∷ bytes) = if x == y then differs_at (place + 1) text bytes else Some place

-- A side is foreign where it has at least 17 bytes, byte 0 is not 0, and bytes 1 to 7 are not the mark and the version:
-- the first place that differs.
unfoldable pub foreign_at : List ℕ → Option ℕ
foreign_at c = if nat_lt (length c) 17 then None else (if get_or c 0 0 == 0 then None else differs_at 1 mark (drop 1 c))

-- the generation of a side with mark and version, in bytes 8 to 15
unfoldable pub generation_of : List ℕ → ℕ
generation_of c = from_be_bytes w64 (take 8 (drop 8 c))

unfoldable pub same_bytes : List ℕ → List ℕ → Bool
same_bytes [] [] = true
same_bytes (x ∷ xs) (y ∷ ys) = (x == y) && same_bytes xs ys
same_bytes xs ys = false

-- a side that can be current: it has at least 17 bytes, byte 0 is 1, and mark and version stand
unfoldable pub is_able : List ℕ → Bool
is_able c = nat_lt 16 (length c) && (get_or c 0 0 == 1) && same_bytes (take 7 (drop 1 c)) mark

-- The current side, where one is: that of the greater generation, side a at a tie. True is side b.
unfoldable pub current_of : List ℕ → List ℕ → Option Bool
current_of a b = if is_able a then (if is_able b && nat_lt (generation_of a) (generation_of b) then Some true else Some false) else if is_able b then Some true else None

-- what is recovered from two sides
pub data Recovered : Type 0 where
  -- the side, where true is side b, and the place at which it is no journal's
  not_a_journal : Bool → ℕ → Recovered
  -- no side is current
  no_side : Recovered
  -- which side is current, its generation, its bodies, its length up to and with the ending gate, and the tail, where one is
  found : Bool → ℕ → List (List ℕ) → ℕ → Option (List ℕ) → Recovered

abbrev pub first_of : Option (List ℕ × List ℕ) → Option (List ℕ)
first_of None = None
first_of (Some x) = Some x.0

-- behind an ending gate that is not 0: the body of a whole record with a gate after it
abbrev pub tail_at : List ℕ → Option (List ℕ)
tail_at [] = None
tail_at (gate ∷ bytes) = if gate == 0 then None else first_of (body_at bytes)

abbrev pub is_open : List ℕ → Bool
is_open [] = false
is_open (gate ∷ bytes) = gate == 1

-- the bodies, and what begins with the ending gate; an open gate there has no whole record behind it
abbrev pub ended : Bool → List ℕ → List (List ℕ) × List ℕ → Recovered
ended second c read = if is_open read.1 then not_a_journal second (length c - length read.1) else found second (generation_of c) read.0 (length c - length read.1 + 1) (tail_at read.1)

-- the current side, read
abbrev pub read_side : List ℕ → List ℕ → Option Bool → Recovered
read_side a b None = no_side
read_side a b (Some second) = ended second (cond second b a) (records_at (length (cond second b a)) (drop 16 (cond second b a)))

-- foreign sides first, side a before b
abbrev pub unless_foreign : Option ℕ → Option ℕ → Recovered → Recovered
unless_foreign (Some place) at_b other = not_a_journal false place
unless_foreign None (Some place) other = not_a_journal true place
unless_foreign None None other = other

unfoldable pub recover : List ℕ → List ℕ → Recovered
recover a b = unless_foreign (foreign_at a) (foreign_at b) (read_side a b (current_of a b))

-- the tail of a side that ends so
abbrev pub tail_in : {front c : List ℕ} → Ends front c → Option (List ℕ)
tail_in (closed begins) = None
tail_in (tail gate body not_open fits begins) = if gate == 0 then None else Some body
