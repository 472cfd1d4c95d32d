-- How the table keeps its locks: in a list in which ended ones may stand, and beside it a map from each held feature
-- to the number of the lock that holds it.
use Rattle.std.specs.Prelude.{◌≡◌, ℕ, ◌+◌, ◌<◌, ◌≤◌, length, Bool, true, false, ◌==◌, ◌&&◌, nat_eq, List, [], Option, Some, None, if◌then◌else◌}
use Rattle.std.specs.List.{AllByRecursion, filter, list_any}
use Rattle.std.specs.HashMap.{HashMap, get}
use Rattle.feature_values.specs.declared.feature.Rid.{Rid}
use Rattle.lock_table.specs.Lock.{Lock}
use Rattle.lock_table.specs.Held.{is_among, is_live, lists, has_number, is_live_number, IsRising}

abbrev pub pair_eq : ℕ × ℕ → ℕ × ℕ → Bool
pair_eq a b = nat_eq a.0 b.0 && nat_eq a.1 b.1

-- the number that a map by feature has at a feature
abbrev pub number_at : {S : Type 0} → HashMap (ℕ × ℕ) ℕ S → Rid → Option ℕ
number_at numbers feature = get pair_eq numbers (feature.kind, feature.number)

-- whether this is the number
abbrev pub is_number : ℕ → Option ℕ → Bool
is_number number None = false
is_number number (Some n) = number == n

-- a map after these features are given to a lock
abbrev pub given_to : ℕ → List Rid → (Rid → Option ℕ) → Rid → Option ℕ
given_to number features holds feature = if is_among feature features then Some number else holds feature

-- a map after those of these features are free that a lock holds
abbrev pub freed_of : ℕ → List Rid → (Rid → Option ℕ) → Rid → Option ℕ
freed_of number features holds feature = if is_among feature features && is_number number (holds feature) then None else holds feature

-- a map by feature names just the features of a lock, where it is live
abbrev pub IsHeldBy : ℕ → (Rid → Option ℕ) → Lock → Type 0
IsHeldBy last holds lock = is_live last lock ≡ true → (feature : Rid) → lists feature lock ≡ is_number lock.number (holds feature)

-- whether a lock with this number lists a feature
abbrev pub is_listed : ℕ → Rid → List Lock → Bool
is_listed number feature locks = list_any (λ lock. has_number number lock && lists feature lock) locks

-- a map by feature names no lock that does not list the feature
abbrev pub AreListed : (Rid → Option ℕ) → List Lock → Type 0
AreListed holds locks = (feature : Rid) (number : ℕ) → holds feature ≡ Some number → is_listed number feature locks ≡ true

-- the list and the map agree at a moment
pub record AreKept (last : ℕ) (given : ℕ) (holds : Rid → Option ℕ) (locks : List Lock) : Type 0 where
  pub rising : IsRising 0 locks
  pub counted : AllByRecursion (λ lock. lock.number ≤ given) locks
  pub held : AllByRecursion (IsHeldBy last holds) locks
  pub issued : (feature : Rid) (number : ℕ) → holds feature ≡ Some number → number ≤ given
  pub listed : AreListed holds locks

-- a lock that has ended, and holds nothing
abbrev pub ended : Lock → Lock
ended lock = record lock { features = []; deadline = 0 }

-- a lock that keeps what a map by feature says that it holds, counted from a moment on, and that has ended where this
-- is nothing
abbrev pub left_with : ℕ → List Rid → Lock → Lock
left_with moment features lock = record lock { features = features; deadline = if length features == 0 then 0 else moment + lock.period }

abbrev pub left_by : ℕ → (Rid → Option ℕ) → Lock → Lock
left_by moment holds lock = left_with moment (filter (λ f. is_number lock.number (holds f)) lock.features) lock

-- room for a lock of so many features: in the map, and, where they are some, in the list and the queue
pub record HasRoom (features : ℕ) (room : ℕ) (used : ℕ) (all : ℕ) (queue : ℕ) : Type 0 where
  pub for_features : features ≤ room
  pub for_lock : 0 < features → used < all
  pub for_entry : 0 < features → used < queue
  pub for_entries : used ≤ queue

-- the holder of a feature for which a map has this
abbrev pub holder_by : List Lock → ℕ → Option ℕ → Option ℕ
holder_by locks moment None = None
holder_by locks moment (Some number) = if is_live_number locks moment number then Some number else None

-- a lock that has ended holds nothing by a map
abbrev pub IsFreed : ℕ → (Rid → Option ℕ) → Lock → Type 0
IsFreed last holds lock = is_live last lock ≡ false → (feature : Rid) → lists feature lock ≡ true → is_number lock.number (holds feature) ≡ false

-- what a lock lists, where it has ended
abbrev pub ended_features : ℕ → Lock → List Rid
ended_features last lock = if is_live last lock then [] else lock.features
