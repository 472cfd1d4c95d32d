-- A lock, and what a table of locks knows.
use Rattle.std.specs.Prelude.{ℕ, List}
use Rattle.feature_values.specs.declared.feature.Rid.{Rid}

-- a lock on features (OGC 09-025r2, 12)
pub record Lock : Type 0 where
  pub number : ℕ
  -- in the order in which they were taken
  pub features : List Rid
  -- in seconds
  pub period : ℕ
  -- the first moment at which the lock is live no more
  pub deadline : ℕ

pub record Locks : Type 0 where
  -- those that are live at the last moment given, in the order in which they were granted
  pub locks : List Lock
  -- the number of this opening of the service
  pub opening : ℕ
  -- how many locks were granted in this opening
  pub given : ℕ
  -- the last moment given
  pub last : ℕ
  -- how many features the next lock may have, for which memory is at hand
  pub spare : ℕ
  -- how many locks have a place in memory, with those that have ended
  pub kept : ℕ
  -- how many features these locks list, each as often as it is listed
  pub listed : ℕ
  -- how many features have an entry in the map by feature
  pub mapped : ℕ
