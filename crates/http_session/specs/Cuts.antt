-- Bytes that are cut by a class: for the reader.
use Rattle.std.specs.Prelude.{ℕ, ◌≡◌, ◌++◌, ◌∷◌, List, [], Bool, true, false, ◌&&◌, ◌||◌, ◌==◌, not}
use Rattle.std.specs.List.{list_all}
use Rattle.httparse.specs.Grammar.{is_ows}
use Rattle.http_session.specs.declared.cut.Class.{Class}
use Rattle.http_session.specs.declared.cut.Class.TheVariants as class

-- CR or LF
abbrev pub is_line_byte : ℕ → Bool
is_line_byte b = b == 13 || b == 10

-- neither CR, LF nor a space
abbrev pub is_plain : ℕ → Bool
is_plain b = not (b == 32) && not (is_line_byte b)

-- not a comma
abbrev pub is_in_part : ℕ → Bool
is_in_part b = not (b == 44)

abbrev pub is_of : Class → ℕ → Bool
is_of class.Line b = is_line_byte b
is_of class.Plain b = is_plain b
is_of class.Blank b = is_ows b
is_of class.Part b = is_in_part b

-- the first byte, if there is one, does not pass the test
abbrev pub StartsOutside : (ℕ → Bool) → List ℕ → Type 0
StartsOutside p [] = Unit {0}
StartsOutside p (b ∷ bytes) = p b ≡ false

-- bytes that are cut where the first stands that does not pass
pub record Cut (p : ℕ → Bool) (bytes front rest : List ℕ) : Type 0 where
  pub whole : bytes ≡ front ++ rest
  pub run : list_all p front ≡ true
  pub stop : StartsOutside p rest
