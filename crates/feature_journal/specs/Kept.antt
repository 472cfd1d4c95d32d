-- What a journal keeps of its list.
use Rattle.std.specs.Prelude.{◌≡◌, ◌⊎◌, ◌+◌, ◌≤◌, ℕ, List, [], ◌∷◌, ◌++◌, length, Bool, true, false, Option}
use Rattle.disk_core.specs.Disk.{Every}
use Rattle.disk_core.specs.Sides.{chosen, spare}
use Rattle.disk_core.specs.declared.pair.Pair.{Pair}
use Rattle.feature_journal.specs.declared.journal.Journal.{Journal}
use Rattle.feature_journal.specs.declared.pending.Pending.{Pending}
use Rattle.feature_journal.specs.declared.pending.Pending.TheVariants.{Nothing, Record, Side}
use Rattle.feature_journal.specs.Side.{side, Closed, Gate}
use Rattle.feature_journal.specs.Whole.{Fits, IsList}
use Rattle.feature_journal.specs.Held.{HeldClosed, HeldBegun}
use Rattle.feature_journal.specs.Making.{Making, inner}

-- the greatest length of a side
abbrev pub greatest_side : ℕ
greatest_side = 268435456

-- What a journal is seen as.
pub record Kept (D : Type 0) : Type 0 where
  pub disks : Pair D
  -- whether side b is current, the generation of that side, the place of its ending gate, and the limit of its length
  pub second : Bool
  pub generation : ℕ
  pub gate : ℕ
  pub limit : ℕ
  -- what is begun, and the place of the ending gate of the side in the making
  pub begun : Pending
  pub made : ℕ

abbrev pub seen : {D : Type 0} → Journal D → Kept D
seen journal = record { disks = journal.disks; second = journal.second_side; generation = journal.generation; gate = journal.gate; limit = journal.side; begun = journal.begun; made = journal.made }

abbrev pub disks_of : {D : Type 0} → Journal D → Pair D
disks_of journal = (seen journal).disks

abbrev pub is_second : {D : Type 0} → Journal D → Bool
is_second journal = (seen journal).second

abbrev pub generation_in : {D : Type 0} → Journal D → ℕ
generation_in journal = (seen journal).generation

-- the length up to and with the ending gate
abbrev pub length_of : {D : Type 0} → Journal D → ℕ
length_of journal = (seen journal).gate + 1

abbrev pub limit_of : {D : Type 0} → Journal D → ℕ
limit_of journal = (seen journal).limit

abbrev pub is_pending : Pending → Bool
is_pending Nothing = false
is_pending Record = true
is_pending Side = true

abbrev pub has_begun : {D : Type 0} → Journal D → Bool
has_begun journal = is_pending (seen journal).begun

abbrev pub made_length_of : {D : Type 0} → Journal D → ℕ
made_length_of journal = (seen journal).made + 1

-- the same side is current, with the same length and limit
pub record SameSide {D : Type 0} (old new : Journal D) : Type 0 where
  pub second : is_second new ≡ is_second old
  pub generation : generation_in new ≡ generation_in old
  pub length : length_of new ≡ length_of old
  pub limit : limit_of new ≡ limit_of old

-- The disks stand for this list, and nothing is begun.
pub record Rests {D : Type 0} (images : D → List ℕ → Type 0) (bodies : List (List ℕ)) (kept : Kept D) : Type 0 where
  pub begun : kept.begun ≡ Nothing
  pub held : HeldClosed images kept.second kept.generation kept.gate bodies kept.disks
  pub within : kept.gate + 1 ≤ kept.limit
  pub limit : kept.limit ≤ greatest_side

-- The disks stand for this list, or for it with this body, which is begun.
pub record Began {D : Type 0} (images : D → List ℕ → Type 0) (bodies : List (List ℕ)) (body : List ℕ) (kept : Kept D) : Type 0 where
  pub begun : kept.begun ≡ Record
  pub held : HeldBegun images kept.second kept.generation kept.gate bodies body kept.disks
  pub fits : Fits body
  pub within : kept.gate + 1 ≤ kept.limit
  pub limit : kept.limit ≤ greatest_side

-- The disks stand for this list, or for this other one, with which a side is begun.
pub record BeganSide {D : Type 0} (images : D → List ℕ → Type 0) (bodies added : List (List ℕ)) (kept : Kept D) : Type 0 where
  pub begun : kept.begun ≡ Side
  pub list : IsList kept.generation bodies
  pub size : length (side kept.generation bodies) ≡ kept.gate
  pub ends : Every (images (chosen kept.second kept.disks)) (Closed (side kept.generation bodies))
  pub next : IsList (kept.generation + 1) added
  pub beside : Every (images (spare kept.second kept.disks)) (Gate [] (inner (kept.generation + 1) added ++ 0 ∷ []))
  pub within : kept.gate + 1 ≤ kept.limit
  pub limit : kept.limit ≤ greatest_side

-- The disks stand for this list, and the other side holds these records so far.
pub record Makes {D : Type 0} (shown : D → Option (List ℕ)) (images : D → List ℕ → Type 0) (bodies added : List (List ℕ)) (kept : Kept D) : Type 0 where
  pub rests : Rests images bodies kept
  pub making : Making shown images (kept.generation + 1) kept.made added (spare kept.second kept.disks)
  pub room : kept.made + 1 ≤ kept.limit

-- the disks stand for a list, or for it and what is begun
abbrev pub Stands : {D : Type 0} (images : D → List ℕ → Type 0) → Kept D → Type 0
Stands images kept =
    ((bodies : List (List ℕ)) × Rests images bodies kept)
    ⊎ (((bodies : List (List ℕ)) × (body : List ℕ) × Began images bodies body kept)
    ⊎ ((bodies : List (List ℕ)) × (added : List (List ℕ)) × BeganSide images bodies added kept))
