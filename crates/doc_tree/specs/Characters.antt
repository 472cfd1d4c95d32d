-- The characters of a document, and what stands for those that no document may hold.
use Rattle.std.specs.Prelude.{ℕ, Bool, ◌&&◌, ◌||◌, not, nat_le, if◌then◌else◌, ◌==◌, List, map, encode_utf8_all}
use Rattle.std.specs.Str.{chars}

-- the characters of a document (XML 1.0, 2.2)
abbrev pub is_allowed : ℕ → Bool
is_allowed c = c == 9 || c == 10 || c == 13 || (nat_le 32 c && nat_le c 0xd7ff) || (nat_le 0xe000 c && nat_le c 0xfffd) || (nat_le 0x10000 c && nat_le c 0x10ffff)

-- what stands for a character: itself, or the replacement character U+FFFD where no document may hold it
abbrev pub or_replacement : ℕ → ℕ
or_replacement c = if is_allowed c then c else 0xfffd

-- a text as a document may hold it
unfoldable pub allowed_text : List ℕ → List ℕ
allowed_text text = encode_utf8_all (map or_replacement (chars text))

-- Bytes of allowed characters alone: what is not allowed is a control character, or begins with 0xef.
abbrev pub is_plain : ℕ → Bool
is_plain b = (nat_le 32 b && not (b == 0xef)) || b == 9 || b == 10 || b == 13
