-- What calls leave of a list of locks (OGC 09-025r2, 12 and 15.2.3).
use Rattle.std.specs.Prelude.{ℕ, ◌+◌, ◌&&◌, ◌==◌, not, if◌then◌else◌, List, [], ◌∷◌, ◌++◌, map, Option, unwrap_or, length}
use Rattle.std.specs.List.{filter}
use Rattle.feature_values.specs.declared.feature.Rid.{Rid}
use Rattle.lock_table.specs.declared.words.Release.{Release}
use Rattle.lock_table.specs.declared.words.Release.TheVariants.{Whole, Touched}
use Rattle.lock_table.specs.Lock.{Lock}
use Rattle.lock_table.specs.Held.{is_among, live, has_number}

-- the lock that is granted after so many others
abbrev pub new_lock : ℕ → List Rid → ℕ → ℕ → Lock
new_lock given features moment period = record { number = given + 1; features = features; period = period; deadline = moment + period }

-- a grant adds a lock with the next number
abbrev pub granted : ℕ → ℕ → List Rid → ℕ → List Lock → List Lock
granted moment given features period locks = live moment (locks ++ new_lock given features moment period ∷ [])

-- a lock with a given period, or with its own where none is given, counted from a moment on
abbrev pub renewed_lock : ℕ → Option ℕ → Lock → Lock
renewed_lock moment period lock = let now = unwrap_or period lock.period in record lock { period = now; deadline = moment + now }

-- the lock with a number is changed, and all others stay
abbrev pub changed_at : ℕ → (Lock → Lock) → List Lock → List Lock
changed_at number change locks = map (λ lock. if has_number number lock then change lock else lock) locks

-- a renewal
abbrev pub renewed : ℕ → ℕ → Option ℕ → List Lock → List Lock
renewed moment number period locks = live moment (changed_at number (renewed_lock moment period) locks)

-- the touched features leave a lock, and its period is counted from a moment on
abbrev pub without : ℕ → List Rid → Lock → Lock
without moment touched lock = record lock { features = filter (λ f. not (is_among f touched)) lock.features; deadline = moment + lock.period }

-- A release ends the lock with a number, or takes the touched features from it, and then ends it where none remains.
unfoldable pub released : ℕ → ℕ → List Rid → Release → List Lock → List Lock
released moment number touched Whole locks = live moment (filter (λ lock. not (has_number number lock)) locks)
released moment number touched Touched locks =
    live moment (filter (λ lock. not (has_number number lock && (length lock.features == 0))) (changed_at number (without moment touched) locks))
