-- The counts of failures of two disks.
use Rattle.std.specs.Prelude.{◌⊎◌, ◌≤◌, ℕ}
use Rattle.wfs_ends.specs.Ends.{Rose}
use Rattle.disk_core.specs.declared.pair.Pair.{Pair}

-- none fell
abbrev pub NoneFell : {D : Type 0} → (faults : D → ℕ) → Pair D → Pair D → Type 0
NoneFell faults old new = (faults old.a ≤ faults new.a) × (faults old.b ≤ faults new.b)

-- one rose
abbrev pub OneRose : {D : Type 0} → (faults : D → ℕ) → Pair D → Pair D → Type 0
OneRose faults old new = Rose (faults old.a) (faults new.a) ⊎ Rose (faults old.b) (faults new.b)
