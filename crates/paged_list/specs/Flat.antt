-- A list that stands in several lists, one after the other.
use Rattle.std.specs.Prelude.{◌≡◌, ℕ, zero, suc, ◌-◌, List, [], ◌∷◌, ◌++◌, length, min}

module _ {X : Type 0} where
  -- the items of lists, one list after the other
  abbrev pub flat : List (List X) → List X
  flat [] = []
  flat (xs ∷ xss) = xs ++ flat xss

  -- n items in lists of the greatest length: each is full before the next one has an item, and those after the last item are empty
  abbrev pub IsEven : ℕ → ℕ → List (List X) → Type 0
  IsEven most n [] = n ≡ 0
  IsEven most n (xs ∷ xss) = (length xs ≡ min most n) × IsEven most (n - most) xss

  -- lists with an item more at the end of the list at a place, or in a list of its own after the last one
  abbrev pub added_at : List (List X) → ℕ → X → List (List X)
  added_at [] at x = (x ∷ []) ∷ []
  added_at (xs ∷ xss) zero x = (xs ++ x ∷ []) ∷ xss
  added_at (xs ∷ xss) (suc at) x = xs ∷ added_at xss at x
