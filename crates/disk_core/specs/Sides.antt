-- What a crash may leave of two disks.
use Rattle.std.specs.Prelude.{ℕ, List, Bool, cond}
use Rattle.disk_core.specs.Disk.{Grows}
use Rattle.disk_core.specs.declared.pair.Pair.{Pair}

-- From old to new each image of one disk, with each of the other, has this. In what order the two disks were called is not told, so all go with all.
pub record Within {D : Type 0} (moment : D → ℕ) (since : D → ℕ → List ℕ → Type 0) (P : List ℕ → List ℕ → Type 0) (old new : Pair D) : Type 0 where
  pub a : Grows moment since old.a new.a
  pub b : Grows moment since old.b new.b
  pub each : (x y : List ℕ) → since new.a (moment old.a) x → since new.b (moment old.b) y → P x y

-- The same over a run of calls: each goes with each within a call, and not from call to call.
pub data Always {D : Type 0} (moment : D → ℕ) (since : D → ℕ → List ℕ → Type 0) (P : List ℕ → List ℕ → Type 0) : Pair D → Pair D → Type 0 where
  once : (old new : Pair D) → Within moment since P old new → Always moment since P old new
  then : (old mid new : Pair D) → Within moment since P old mid → Always moment since P mid new → Always moment since P old new

-- each image has this
abbrev pub EveryBoth : {D : Type 0} (images : D → List ℕ → Type 0) → (List ℕ → List ℕ → Type 0) → Pair D → Type 0
EveryBoth images P disks = (x y : List ℕ) → images disks.a x → images disks.b y → P x y

-- side b, or side a; and the other one
abbrev pub chosen : {D : Type 0} → Bool → Pair D → D
chosen second disks = cond second disks.b disks.a

abbrev pub spare : {D : Type 0} → Bool → Pair D → D
spare second disks = cond second disks.a disks.b
