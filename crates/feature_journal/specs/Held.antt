-- What a journal holds.
use Rattle.std.specs.Prelude.{◌≡◌, ◌⊎◌, ◌+◌, ℕ, List, [], ◌∷◌, ◌++◌, length, Bool, not, Option, Some}
use Rattle.disk_core.specs.Disk.{Every}
use Rattle.disk_core.specs.Sides.{EveryBoth, chosen, spare}
use Rattle.disk_core.specs.declared.pair.Pair.{Pair}
use Rattle.feature_journal.specs.declared.side.Append.{Append}
use Rattle.feature_journal.specs.declared.side.Append.TheVariants.{Done, Clean}
use Rattle.feature_journal.specs.declared.side.Append.TheVariants as outcomes
use Rattle.feature_journal.specs.Side.{side, Closed, Begun}
use Rattle.feature_journal.specs.Whole.{IsList, Idle, Says}

-- a crash leaves just what a read gives
abbrev pub IsStable : {D : Type 0} (shown : D → Option (List ℕ)) (images : D → List ℕ → Type 0) → D → Type 0
IsStable shown images disk = Every (images disk) (λ c. shown disk ≡ Some c)

-- The chosen side says this list, and each image of it has this behind that.
pub record Held {D : Type 0} (images : D → List ℕ → Type 0) (second : Bool) (generation gate : ℕ) (bodies : List (List ℕ)) (P : List ℕ → List ℕ → Type 0) (disks : Pair D) : Type 0 where
  pub list : IsList generation bodies
  pub size : length (side generation bodies) ≡ gate
  pub ends : Every (images (chosen second disks)) (P (side generation bodies))
  pub beside : Idle (not second) generation (images (spare second disks))

-- nothing is begun
abbrev pub HeldClosed : {D : Type 0} (images : D → List ℕ → Type 0) (second : Bool) (generation gate : ℕ) (bodies : List (List ℕ)) (disks : Pair D) → Type 0
HeldClosed images second generation gate bodies disks = Held images second generation gate bodies Closed disks

-- a record is begun
abbrev pub HeldBegun : {D : Type 0} (images : D → List ℕ → Type 0) (second : Bool) (generation gate : ℕ) (bodies : List (List ℕ)) (body : List ℕ) (disks : Pair D) → Type 0
HeldBegun images second generation gate bodies body disks = Held images second generation gate bodies (λ front. Begun front body) disks

-- the list, or the list with this body
abbrev pub With : List (List ℕ) → List ℕ → List ℕ → List ℕ → Type 0
With bodies body a b = Says (bodies ∷ []) a b ⊎ Says ((bodies ++ body ∷ []) ∷ []) a b

-- the disks stand for this list: each image of both is whole and says it
abbrev pub StandsFor : {D : Type 0} (images : D → List ℕ → Type 0) (bodies : List (List ℕ)) → Pair D → Type 0
StandsFor images bodies disks = EveryBoth images (Says (bodies ∷ [])) disks

-- or for it with this body
abbrev pub StandsForEither : {D : Type 0} (images : D → List ℕ → Type 0) (bodies : List (List ℕ)) (body : List ℕ) → Pair D → Type 0
StandsForEither images bodies body disks = EveryBoth images (With bodies body) disks

-- after a record was to be written
abbrev pub AfterBoth : {D : Type 0} (images : D → List ℕ → Type 0) (second : Bool) (generation gate : ℕ) (bodies : List (List ℕ)) (body : List ℕ) → Append → Pair D → Type 0
AfterBoth images second generation gate bodies body Done disks = HeldClosed images second generation (gate + 5 + length body) (bodies ++ body ∷ []) disks
AfterBoth images second generation gate bodies body Clean disks = HeldClosed images second generation gate bodies disks
AfterBoth images second generation gate bodies body outcomes.Begun disks = HeldBegun images second generation gate bodies body disks
