-- What reading both sides comes to.
use Rattle.std.specs.Prelude.{◌≡◌, ◌≤◌, ◌<◌, ◌+◌, ◌^◌, ℕ, List, [], length, Bool, true, false, not, Option, IfSome, Result, Ok, Err}
use Rattle.std.specs.List.{AllByRecursion}
use Rattle.disk_core.specs.Disk.{Leads, Same, Torn}
use Rattle.disk_core.specs.Sides.{chosen, spare}
use Rattle.disk_core.specs.declared.pair.Pair.{Pair}
use Rattle.feature_journal.specs.Side.{side, Gate}
use Rattle.feature_journal.specs.Whole.{Fits}
use Rattle.feature_journal.specs.Recover.{generation_of}
use Rattle.recovery.specs.declared.fault.RecoverFault.{RecoverFault}
use Rattle.recovery.specs.declared.fault.RecoverFault.TheVariants as faults
use Rattle.recovery.specs.declared.look.Ending.{Ending}
use Rattle.recovery.specs.declared.look.Found.{Found}
use Rattle.recovery.specs.declared.look.Looked.{Looked}
use Rattle.recovery.specs.declared.look.Looked.TheVariants as looks
use Rattle.recovery.specs.Outcome.{Outcome}
use Rattle.recovery.specs.Outcome.Outcome.{refused, no_side, found}
use Rattle.recovery.specs.Choice.{IsResting, IsBeside}

-- a fault that is the outcome; a disk that failed and want of memory may come whatever it is
abbrev pub RefusesOr : RecoverFault → Outcome → List (List ℕ) → Type 0
RefusesOr faults.DiskFault outcome taken = Unit {0}
RefusesOr (faults.NotAJournal place) outcome taken = outcome ≡ refused (faults.NotAJournal place) taken
RefusesOr (faults.NotOfSchema number) outcome taken = outcome ≡ refused (faults.NotOfSchema number) taken
RefusesOr (faults.Full sum) outcome taken = outcome ≡ refused (faults.Full sum) taken
RefusesOr faults.OutOfMemory outcome taken = Unit {0}

abbrev pub SideRead : Result Ending RecoverFault → Outcome → (second : Bool) → List ℕ → (taken : List (List ℕ)) → Type 0
SideRead (Ok e) outcome second c taken = outcome ≡ found second (generation_of c) e.gate taken
SideRead (Err fault) outcome second c taken = RefusesOr fault outcome taken

-- the side says these bodies, up to the gate, which is closed where it is said to be
pub record EndsAt (e : Ending) (generation : ℕ) (taken : List (List ℕ)) (c : List ℕ) : Type 0 where
  pub there : Gate (side generation taken) [] c
  pub closed : e.is_closed ≡ true → there.byte ≡ 0
  pub not_closed : e.is_closed ≡ false → there.byte ≡ 0 → ⊥

abbrev pub LookedIs : Result Looked RecoverFault → Outcome → List (List ℕ) → Type 0
LookedIs (Ok (looks.Nothing a b)) outcome taken = (outcome ≡ no_side) × (taken ≡ [])
LookedIs (Ok (looks.Found f)) outcome taken = outcome ≡ found f.second f.generation f.gate taken
LookedIs (Err fault) outcome taken = RefusesOr fault outcome taken

-- what is known of the current side and the other one
pub record FoundAt {D : Type 0} (shown : D → Option (List ℕ)) (f : Found) (limit : ℕ) (taken : List (List ℕ)) (disks : Pair D) : Type 0 where
  pub generation_fits : f.generation < 2 ^ 64
  pub bodies_fit : AllByRecursion Fits taken
  pub size : length (side f.generation taken) ≡ f.gate
  pub within : f.gate + 1 ≤ limit
  pub current : IfSome (shown (chosen f.second disks)) (λ c. EndsAt (record { gate = f.gate; is_closed = f.is_closed }) f.generation taken c)
  pub other : IfSome (shown (spare f.second disks)) (IsBeside f.is_stale (not f.second) f.generation)

pub record NothingAt {D : Type 0} (shown : D → Option (List ℕ)) (first_is_stale second_is_stale : Bool) (disks : Pair D) : Type 0 where
  pub first : IfSome (shown disks.a) (IsResting first_is_stale)
  pub second : IfSome (shown disks.b) (IsResting second_is_stale)

abbrev pub LookedAt : {D : Type 0} (shown : D → Option (List ℕ)) → Looked → (limit : ℕ) (taken : List (List ℕ)) → Pair D → Type 0
LookedAt shown (looks.Nothing a b) limit taken disks = NothingAt shown a b disks × (taken ≡ [])
LookedAt shown (looks.Found f) limit taken disks = FoundAt shown f limit taken disks

-- a disk shows what it showed, and a crash leaves what it left
pub record Kept {D : Type 0} (shown : D → Option (List ℕ)) (moment : D → ℕ) (since : D → ℕ → List ℕ → Type 0) (images : D → List ℕ → Type 0) (old new : D) : Type 0 where
  pub same : shown new ≡ shown old
  pub crash : Leads moment since images Same old new

-- nothing was written on either
pub record Untouched {D : Type 0} (shown : D → Option (List ℕ)) (moment : D → ℕ) (since : D → ℕ → List ℕ → Type 0) (images : D → List ℕ → Type 0) (old new : Pair D) : Type 0 where
  pub a : Kept shown moment since images old.a new.a
  pub b : Kept shown moment since images old.b new.b

-- what the settling of a side that was found writes
pub record Settles {D : Type 0} (moment : D → ℕ) (since : D → ℕ → List ℕ → Type 0) (images : D → List ℕ → Type 0) (f : Found) (old new : Pair D) : Type 0 where
  pub current : Leads moment since images (Torn f.gate 1) (chosen f.second old) (chosen f.second new)
  pub current_closed : f.is_closed ≡ true → Leads moment since images Same (chosen f.second old) (chosen f.second new)
  pub other : Leads moment since images (Torn 0 1) (spare f.second old) (spare f.second new)
  pub other_left : f.is_stale ≡ false → spare f.second new ≡ spare f.second old
