-- What is left of a text, some of which was read.
use Rattle.std.specs.Prelude.{◌≡◌, ◌++◌, ◌∷◌, ◌<◌, ℕ, true, false, length, List, Option, Some, None, encode_utf8}
use Rattle.std.specs.Str.{chars}
use Rattle.std.specs.Borrow.{Bor}
use Rattle.doc_read.specs.declared.lex.Class.{Class}
use Rattle.doc_read.specs.Chars.{holds, starts}

abbrev pub IsRest : List ℕ → List ℕ → Type 0
IsRest whole rest = (front : List ℕ) × (whole ≡ front ++ rest)

-- what comes after a first character of the class, where one stands first
abbrev pub Skips : Class → Option (Bor (List ℕ)) → List ℕ → Type 0
Skips class None text = starts class (chars text) ≡ false
Skips class (Some rest) text = (c : ℕ) × (holds class c ≡ true) × (chars text ≡ c ∷ chars rest.now) × (length rest.now < length text) × (text ≡ encode_utf8 c ++ rest.now)
