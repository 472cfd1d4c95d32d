-- Byte strings that are refused as no journal, and which side is current, without a word of how they are read.
use Rattle.std.specs.Prelude.{◌≡◌, ◌≤◌, ◌<◌, ◌+◌, ◌^◌, ℕ, List, [], ◌∷◌, ◌++◌, length}
use Rattle.std.specs.Int.{to_be_bytes, w32, w64}
use Rattle.disk_core.specs.Disk.{Begins}
use Rattle.feature_journal.specs.Side.{mark}

-- At least 17 bytes, of which the first is not 0, and the mark and the version do not stand behind it: this is the place of
-- the first byte that differs.
pub record Foreign (place : ℕ) (c : List ℕ) : Type 0 where
  pub long : 17 ≤ length c
  pub first : ℕ
  pub used : first ≡ 0 → ⊥
  -- what stands of the mark, the byte that is due then and the one that is there
  pub front : List ℕ
  pub due : ℕ
  pub more : List ℕ
  pub mark_is : mark ≡ front ++ due ∷ more
  pub other : ℕ
  pub differs : other ≡ due → ⊥
  pub is : Begins (first ∷ (front ++ other ∷ [])) c
  pub at : place ≡ 1 + length front

-- under 17 bytes, or byte 0 is 0, or mark and version stand
pub data Own (c : List ℕ) : Type 0 where
  few : length c < 17 → Own c
  shut : Begins (0 ∷ []) c → Own c
  marked : (first : ℕ) → Begins (first ∷ mark) c → Own c

-- At least 17 bytes, with an open byte 0, mark, version and this generation: such a side can be current.
pub record Able (generation : ℕ) (c : List ℕ) : Type 0 where
  pub fits : generation < 2 ^ 64
  pub first : ℕ
  pub is : Begins (1 ∷ (mark ++ to_be_bytes w64 generation ++ first ∷ [])) c

-- under 17 bytes, or byte 0 is not 1: such a side is never current
pub data Unable (c : List ℕ) : Type 0 where
  too_few : length c < 17 → Unable c
  not_open : (first : ℕ) → (first ≡ 1 → ⊥) → Begins (first ∷ []) c → Unable c

-- Behind an open gate the file ends within the length, or before the body and one byte more.
pub data Torn (rest : List ℕ) : Type 0 where
  no_length : length rest < 4 → Torn rest
  no_body : (size : ℕ) (more : List ℕ) → size < 2 ^ 32 → rest ≡ to_be_bytes w32 size ++ more → length more ≤ size → Torn rest
