-- Two sides of which none is current.
use Rattle.std.specs.Prelude.{◌≡◌, ◌⊎◌, ◌<◌, ◌^◌, ℕ, List, [], ◌∷◌, ◌++◌, length, Bool, true, false}
use Rattle.std.specs.Int.{to_be_bytes, w64}
use Rattle.disk_core.specs.Disk.{Begins, Every}
use Rattle.feature_journal.specs.Side.{mark}
use Rattle.feature_journal.specs.Whole.{Says}

-- under 17 bytes, or byte 0 is 0, or mark, version and a generation stand, with no open byte 0, and the first record's gate is 0
pub data Unmade (c : List ℕ) : Type 0 where
  few : length c < 17 → Unmade c
  zero_first : Begins (0 ∷ []) c → Unmade c
  no_record : (gate own : ℕ) → (gate ≡ 1 → ⊥) → own < 2 ^ 64 → Begins (gate ∷ (mark ++ to_be_bytes w64 own ++ 0 ∷ [])) c → Unmade c

-- an image of two sides is whole, with no current side or with one that says nothing
abbrev pub Nothing : List ℕ → List ℕ → Type 0
Nothing a b = (Unmade a × Unmade b) ⊎ Says ([] ∷ []) a b

-- all images are short, or all have byte 0 closed
pub data Unused (images : List ℕ → Type 0) : Type 0 where
  all_few : Every images (λ c. length c < 17) → Unused images
  all_zero : Every images (Begins (0 ∷ [])) → Unused images

-- a side with no record, whose byte 0 is not open
pub record Empty (own : ℕ) (c : List ℕ) : Type 0 where
  pub gate : ℕ
  pub not_open : gate ≡ 1 → ⊥
  pub is : Begins (gate ∷ (mark ++ to_be_bytes w64 own ++ 0 ∷ [])) c

-- What each image of a side is, where no side is current: a side is stale whose byte 0 reads neither 0 nor 1.
pub record Dormant (is_stale : Bool) (images : List ℕ → Type 0) : Type 0 where
  pub unused : is_stale ≡ false → Unused images
  pub stale : is_stale ≡ true → (own : ℕ) × (own < 2 ^ 64) × Every images (Empty own)

-- An image of two sides is whole: none was ever made current, or a side says a list, up to a gate that is closed or has
-- a whole record and a closed gate behind it, and the other side does no harm.
abbrev pub IsWhole : List ℕ → List ℕ → Type 0
IsWhole a b = (Unmade a × Unmade b) ⊎ ((bodies : List (List ℕ)) × Says (bodies ∷ []) a b)
