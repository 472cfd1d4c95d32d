-- What a crash may leave of two disks during a recovery.
use Rattle.std.specs.Prelude.{◌≡◌, ◌⊎◌, ℕ, List, [], ◌∷◌, ◌++◌, Option, None, Some}
use Rattle.disk_core.specs.Disk.{Every}
use Rattle.disk_core.specs.Sides.{Within, Always}
use Rattle.disk_core.specs.declared.pair.Pair.{Pair}
use Rattle.feature_journal.specs.Whole.{Says}
use Rattle.feature_journal.specs.Recover.{tail_in}

-- what a crash at the start might have left
abbrev pub AtStart : {D : Type 0} (images : D → List ℕ → Type 0) → Pair D → List ℕ → List ℕ → Type 0
AtStart images old x y = images old.a x × images old.b y

-- a crash leaves just what these disks show
pub record AllStable {D : Type 0} (shown : D → Option (List ℕ)) (images : D → List ℕ → Type 0) (old new : Pair D) : Type 0 where
  pub a : Every (images new.a) (λ x. shown old.a ≡ Some x)
  pub b : Every (images new.b) (λ y. shown old.b ≡ Some y)

-- until both files are synced, what a crash at the start might have left, and from then on only this
abbrev pub OnceSynced : {D : Type 0} (shown : D → Option (List ℕ)) (moment : D → ℕ) (since : D → ℕ → List ℕ → Type 0) (images : D → List ℕ → Type 0) (P : List ℕ → List ℕ → Type 0) → Pair D → Pair D → Type 0
OnceSynced {D} shown moment since images P old new = (mid : Pair D) × Within moment since (AtStart images old) old mid × AllStable shown images old mid × Always moment since P mid new

-- the same, where it may be that not both were synced
abbrev pub AfterSync : {D : Type 0} (shown : D → Option (List ℕ)) (moment : D → ℕ) (since : D → ℕ → List ℕ → Type 0) (images : D → List ℕ → Type 0) (P : List ℕ → List ℕ → Type 0) → Pair D → Pair D → Type 0
AfterSync shown moment since images P old new = Within moment since (AtStart images old) old new ⊎ OnceSynced shown moment since images P old new

-- a list, or it with the tail behind its ending gate, where there is one
abbrev pub OrTail : Option (List ℕ) → (lists : List (List (List ℕ))) (bodies : List (List ℕ)) → List ℕ → List ℕ → Type 0
OrTail None lists bodies x y = Says lists x y
OrTail (Some body) lists bodies x y = Says lists x y ⊎ Says ((bodies ++ body ∷ []) ∷ []) x y

-- what two files say, or with their tail
abbrev pub WithTail : (lists : List (List (List ℕ))) {a b : List ℕ} → Says lists a b → List ℕ → List ℕ → Type 0
WithTail lists s x y = OrTail (tail_in s.ends) lists s.bodies x y
