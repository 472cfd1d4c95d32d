-- How long a side is.
use Rattle.std.specs.Prelude.{◌≡◌, ◌≤◌, ◌<◌, ◌+◌, ◌++◌, ℕ, List, [], ◌∷◌, length}

-- up to and with the gate behind these records: 17 bytes, and then of each record a gate, a length and the body
unfoldable pub side_length : List (List ℕ) → ℕ
side_length [] = 17
side_length (body ∷ bodies) = 5 + length body + side_length bodies

-- the first of these records with which a side passes the limit, by this length
pub record Passes (limit sum : ℕ) (all : List (List ℕ)) : Type 0 where
  pub front : List (List ℕ)
  pub body : List ℕ
  pub rest : List (List ℕ)
  pub is : all ≡ front ++ body ∷ rest
  pub within : side_length front ≤ limit
  pub sum_is : sum ≡ side_length (front ++ body ∷ [])
  pub over : limit < sum
