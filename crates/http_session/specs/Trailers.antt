-- The trailer behind the last chunk (RFC 9112, section 7.1.2), whose lines may hold anything and end in LF with or
-- without CR.
use Rattle.std.specs.Prelude.{ℕ, ◌≡◌, List, [], ◌∷◌, ◌++◌, Bool, true, false, ◌==◌, not}
use Rattle.std.specs.List.{flat_map, list_all}
use Rattle.httparse.specs.Grammar.{LineEnd, print_end}

-- no LF
abbrev pub is_in_line : ℕ → Bool
is_in_line b = not (b == 10)

-- nothing stands in the line but perhaps the CR before its LF
abbrev pub is_blank : List ℕ → Bool
is_blank [] = true
is_blank (b ∷ []) = b == 13
is_blank (b ∷ c ∷ line) = false

-- a line without its LF, with the CR before it if there is one
pub record IsTrailerLine (line : List ℕ) : Type 0 where
  pub one : list_all is_in_line line ≡ true
  pub some : is_blank line ≡ false

abbrev pub AreTrailerLines : List (List ℕ) → Type 0
AreTrailerLines [] = Unit {0}
AreTrailerLines (line ∷ lines) = IsTrailerLine line × AreTrailerLines lines

abbrev pub print_line : List ℕ → List ℕ
print_line line = line ++ 10 ∷ []

-- any number of lines, and the empty one that ends them
abbrev pub print_trailer : List (List ℕ) → LineEnd → List ℕ
print_trailer lines last = flat_map print_line lines ++ print_end last

-- the bytes are a trailer and then the rest
pub record ReadsTrailer (bytes rest : List ℕ) : Type 0 where
  pub lines : List (List ℕ)
  pub last : LineEnd
  pub are_lines : AreTrailerLines lines
  pub whole : bytes ≡ print_trailer lines last ++ rest

-- no front of them is a trailer
abbrev pub HasNoTrailer : List ℕ → Type 0
HasNoTrailer bytes = (rest : List ℕ) → ¬ (ReadsTrailer bytes rest)
