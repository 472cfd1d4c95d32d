-- What a command leaves: the store where it was started, else the disks.
use Rattle.std.specs.Prelude.{◌≡◌, ℕ, Some, None}
use Rattle.disk_core.specs.declared.pair.Pair.{Pair}
use Rattle.wfs_store.specs.Held.{Held}
use Rattle.wfsd_commands.specs.declared.done.Done.{Done}

pub record LeavesDisks {D : Type 0} (status : ℕ) (disks : Pair D) (done : Done D) : Type 0 where
  pub status_is : done.status ≡ status
  pub no_store : done.store ≡ None
  pub disks_are : done.disks ≡ Some disks

pub record LeavesStore {D : Type 0} (status : ℕ) (store : Held D) (done : Done D) : Type 0 where
  pub status_is : done.status ≡ status
  pub store_is : done.store ≡ Some store
  pub no_disks : done.disks ≡ None
