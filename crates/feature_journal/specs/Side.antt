-- What the bytes of a side say.
use Rattle.std.specs.Prelude.{◌⊎◌, ℕ, List, [], ◌∷◌, ◌++◌, length, flat_map}
use Rattle.std.specs.Int.{to_be_bytes, w32, w64}
use Rattle.disk_core.specs.Disk.{Begins}

-- the length in four bytes, and the body
unfoldable pub framed : List ℕ → List ℕ
framed body = to_be_bytes w32 (length body) ++ body

-- a record behind an open gate
abbrev pub opened : List ℕ → List ℕ
opened body = 1 ∷ framed body

-- the mark and the version
abbrev pub mark : List ℕ
mark = 87 ∷ 70 ∷ 83 ∷ 74 ∷ 78 ∷ 76 ∷ 1 ∷ []

-- a side up to its ending gate
unfoldable pub side : ℕ → List (List ℕ) → List ℕ
side generation bodies = 1 ∷ (mark ++ to_be_bytes w64 generation ++ flat_map opened bodies)

-- behind this front stands a closed gate, and then anything
abbrev pub Closed : List ℕ → List ℕ → Type 0
Closed front c = Begins (front ++ 0 ∷ []) c

-- behind this front stands some gate, and then this text
pub record Gate (front text c : List ℕ) : Type 0 where
  pub byte : ℕ
  pub is : Begins (front ++ byte ∷ text) c

-- a whole record behind a gate, and a closed gate
abbrev pub behind : List ℕ → List ℕ
behind body = framed body ++ 0 ∷ []

abbrev pub Begun : List ℕ → List ℕ → List ℕ → Type 0
Begun front body c = Gate front (behind body) c

-- what a record that is written goes through
abbrev pub ClosedOrBegun : List ℕ → List ℕ → List ℕ → Type 0
ClosedOrBegun front body c = Closed front c ⊎ Begun front body c
