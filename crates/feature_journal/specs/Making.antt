-- A side in the making.
use Rattle.std.specs.Prelude.{◌≡◌, ◌∷◌, ℕ, List, [], length, drop, Option, IfSome}
use Rattle.disk_core.specs.Disk.{Every, Begins}
use Rattle.feature_journal.specs.Side.{side}
use Rattle.feature_journal.specs.Whole.{IsList}

-- what stands behind byte 0 of a side, up to its ending gate
abbrev pub inner : ℕ → List (List ℕ) → List ℕ
inner generation bodies = drop 1 (side generation bodies)

-- Byte 0 is closed in each image, and what is read is that byte and the records that were added so far, which end at this place.
pub record Making {D : Type 0} (shown : D → Option (List ℕ)) (images : D → List ℕ → Type 0) (generation place : ℕ) (added : List (List ℕ)) (disk : D) : Type 0 where
  pub list : IsList generation added
  pub size : length (side generation added) ≡ place
  pub shut : Every (images disk) (Begins (0 ∷ []))
  pub reads : IfSome (shown disk) (λ s. s ≡ 0 ∷ inner generation added)
