-- Who holds what at a moment. A moment is in seconds since 1970.
use Rattle.std.specs.Prelude.{ℕ, ◌<◌, ◌≤◌, ⊤, Bool, ◌&&◌, ◌||◌, ◌==◌, if◌then◌else◌, nat_lt, List, [], ◌∷◌, Option, Some, None, is_some, unwrap_or, length}
use Rattle.std.specs.Option.{option_or}
use Rattle.std.specs.List.{filter, list_any, sum_by, AllByRecursion}
use Rattle.feature_values.specs.declared.feature.Rid.{Rid}
use Rattle.lock_table.specs.declared.id.LockId.{LockId}
use Rattle.lock_table.specs.declared.words.LockStatus.{LockStatus}
use Rattle.lock_table.specs.declared.words.LockStatus.TheVariants.{Live, NeverGiven, Expired}
use Rattle.lock_table.specs.Lock.{Lock}

-- a lock is live while the moment is below its deadline
abbrev pub is_live : ℕ → Lock → Bool
is_live moment lock = nat_lt moment lock.deadline

-- the locks that are live at a moment
abbrev pub live : ℕ → List Lock → List Lock
live moment locks = filter (is_live moment) locks

abbrev pub is_same : Rid → Rid → Bool
is_same a b = (a.kind == b.kind) && (a.number == b.number)

abbrev pub is_among : Rid → List Rid → Bool
is_among feature features = list_any (λ f. is_same f feature) features

abbrev pub lists : Rid → Lock → Bool
lists feature lock = is_among feature lock.features

-- the first value that is given of an element
unfoldable pub first_of : {X Y : Type 0} → (X → Option Y) → List X → Option Y
first_of f [] = None
first_of f (x ∷ xs) = option_or (f x) (first_of f xs)

abbrev pub held : ℕ → Rid → Lock → Option ℕ
held moment feature lock = if is_live moment lock && lists feature lock then Some lock.number else None

-- the number of the live lock that lists a feature
abbrev pub holder : List Lock → ℕ → Rid → Option ℕ
holder locks moment feature = first_of (held moment feature) locks

abbrev pub held_one : List Lock → ℕ → Rid → Option Rid
held_one locks moment feature = if is_some (holder locks moment feature) then Some feature else None

-- the first of these features that has a holder
abbrev pub first_held : List Lock → ℕ → List Rid → Option Rid
first_held locks moment features = first_of (held_one locks moment) features

abbrev pub has_number : ℕ → Lock → Bool
has_number number lock = lock.number == number

abbrev pub is_live_number : List Lock → ℕ → ℕ → Bool
is_live_number locks moment number = list_any (λ lock. has_number number lock && is_live moment lock) locks

-- An identifier was never given where its opening is yet to come, or where it is the present one, which has not given this number. The
-- present opening has given so many.
abbrev pub was_never_given : ℕ → ℕ → LockId → Bool
was_never_given opening given id = nat_lt opening id.opening || ((id.opening == opening) && ((id.number == 0) || nat_lt given id.number))

-- what an identifier stands for at a moment of an opening that has given so many locks, of which these may be live
abbrev pub status : ℕ → ℕ → List Lock → ℕ → LockId → LockStatus
status opening given locks moment id =
    if was_never_given opening given id then NeverGiven else
    (if (id.opening == opening) && is_live_number locks moment id.number then Live else Expired)

abbrev pub numbered : ℕ → Lock → Option (List Rid)
numbered number lock = if has_number number lock then Some lock.features else None

-- the features of the lock with this number
abbrev pub features_of : List Lock → ℕ → List Rid
features_of locks number = unwrap_or (first_of (numbered number) locks) []

-- how many features locks list, each as often as it is listed
abbrev pub feature_count : List Lock → ℕ
feature_count locks = sum_by (λ lock. length lock.features) locks

-- at most one lock lists a feature
abbrev pub HaveOneHolder : List Lock → Type 0
HaveOneHolder locks = (feature : Rid) → length (filter (lists feature) locks) ≤ 1

-- the numbers of locks rise, and are above a number
abbrev pub IsRising : ℕ → List Lock → Type 0
IsRising low [] = ⊤
IsRising low (lock ∷ locks) = (low < lock.number) × IsRising lock.number locks

-- the numbers of locks rise, and are those of locks that were granted
pub record AreNumbered (given : ℕ) (locks : List Lock) : Type 0 where
  pub rising : IsRising 0 locks
  pub counted : AllByRecursion (λ lock. lock.number ≤ given) locks
