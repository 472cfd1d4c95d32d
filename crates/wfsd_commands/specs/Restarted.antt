-- A store that is closed and started again.
use Rattle.std.specs.Prelude.{◌≡◌, ◌⊎◌, ℕ, List, Option, None, Some}
use Rattle.disk_core.specs.declared.disk.Disk.{Ghosts as DiskMeaning}
use Rattle.wfs_model.specs.declared.change.Change.{Change}
use Rattle.wfs_model.specs.Played.{played_one}
use Rattle.wfs_model.specs.State.{Durable, State}
use Rattle.wfs_store.specs.Held.{Held, kept_of}
use Rattle.wfs_store.specs.Kept.{next_of}

-- the next opening of what was kept, or of it with the change that was begun
abbrev pub OpensNext : Durable → (begun : Option Change) → State → Type 0
OpensNext kept None opening = opening ≡ next_of kept
OpensNext kept (Some change) opening = (opening ≡ next_of kept) ⊎ (opening ≡ next_of (played_one kept change))

-- Where both disks tell, the second store opens on what the history of the first left, or on that with the change that was begun. That it has no
-- history of its own is part of its start.
pub record OpensAgain {D : Type 0} (mean : DiskMeaning D) (old new : Held D) : Type 0 where
  pub opens : (a b : List ℕ) → mean.shown old.disks.a ≡ Some a → mean.shown old.disks.b ≡ Some b → OpensNext (kept_of old) old.begun new.opening
  pub same : new.schema ≡ old.schema
