-- What is known once both files were synced and read.
use Rattle.std.specs.Prelude.{◌≡◌, ◌⊎◌, ◌++◌, ℕ, List, [], ◌∷◌, length, Bool, true, false, not}
use Rattle.disk_core.specs.Disk.{Every, Begins}
use Rattle.disk_core.specs.Sides.{chosen, spare}
use Rattle.disk_core.specs.declared.pair.Pair.{Pair}
use Rattle.feature_journal.specs.Side.{side, behind, Closed, Gate}
use Rattle.feature_journal.specs.Whole.{IsList, OneOf, Idle, Stale, Fits, Says}

-- what two files say
pub record Reading : Type 0 where
  -- lists that are worth the same
  pub lists : List (List (List ℕ))
  pub generation : ℕ
  pub bodies : List (List ℕ)
  -- the tail, where there is one
  pub body : List ℕ
  -- what stands behind byte 0 of a stale side
  pub text : List ℕ

-- the tail stands behind a gate that is not open
pub record TailOf (r : Reading) (c : List ℕ) : Type 0 where
  pub byte : ℕ
  pub not_open : byte ≡ 1 → ⊥
  pub is : Begins (side r.generation r.bodies ++ byte ∷ behind r.body) c

-- One side says one of the lists, and its ending gate stands at this place. The other one is stale, or idle.
pub record Known {D : Type 0} (images : D → List ℕ → Type 0) (second : Bool) (gate : ℕ) (is_stale is_closed : Bool) (r : Reading) (disks : Pair D) : Type 0 where
  pub list : IsList r.generation r.bodies
  pub one : OneOf r.lists r.bodies
  pub size : length (side r.generation r.bodies) ≡ gate
  pub fits : Fits r.body
  pub closed : is_closed ≡ true → Every (images (chosen second disks)) (Closed (side r.generation r.bodies))
  pub tail : is_closed ≡ false → Every (images (chosen second disks)) (TailOf r)
  pub stale : is_stale ≡ true → Stale (not second) r.generation r.lists r.text × Every (images (spare second disks)) (Gate [] r.text)
  pub idle : is_stale ≡ false → Idle (not second) r.generation (images (spare second disks))

-- The chosen side says this list, up to a gate that stands at this place and is closed where it is said to be. The other
-- one is idle where it is not stale.
pub record Placed {D : Type 0} (images : D → List ℕ → Type 0) (second : Bool) (gate : ℕ) (is_stale is_closed : Bool) (generation : ℕ) (bodies : List (List ℕ)) (disks : Pair D) : Type 0 where
  pub list : IsList generation bodies
  pub size : length (side generation bodies) ≡ gate
  pub ends : Every (images (chosen second disks)) (Gate (side generation bodies) [])
  pub closed : is_closed ≡ true → Every (images (chosen second disks)) (Closed (side generation bodies))
  pub idle : is_stale ≡ false → Idle (not second) generation (images (spare second disks))

-- a list, or, where a tail stands, the one with it
abbrev pub SaysOr : (is_closed : Bool) → Reading → List ℕ → List ℕ → Type 0
SaysOr is_closed r a b = Says r.lists a b ⊎ ((is_closed ≡ false) × Says ((r.bodies ++ r.body ∷ []) ∷ []) a b)
