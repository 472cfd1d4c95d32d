-- A run of bytes in pieces.
use Rattle.std.specs.Prelude.{ℕ, List, [], ◌∷◌, take, drop}

-- pieces of these lengths, one behind the other
abbrev pub pieces : List ℕ → List ℕ → List (List ℕ)
pieces [] bytes = []
pieces (n ∷ lengths) bytes = take n bytes ∷ pieces lengths (drop n bytes)
