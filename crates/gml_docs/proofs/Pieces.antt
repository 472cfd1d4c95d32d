-- A text that grows by pieces.
use Rattle.std.proofs.Common.{◌≡◌, ℕ, List, [], ◌∷◌, ◌++◌, refl, append_assoc}
use Rattle.std.proofs.lemmas.List.{append-nil}
use Rattle.wfs_ends.specs.Ends.{joined}

pub two : (old a b : List ℕ) → (old ++ a) ++ b ≡ old ++ (a ++ b)
two old a b = append_assoc old a b

pub three : (old a b c : List ℕ) → ((old ++ a) ++ b) ++ c ≡ old ++ joined (a ∷ b ∷ c ∷ [])
unfolding joined
three old a b c = rw append-nil (simp append_assoc refl)
