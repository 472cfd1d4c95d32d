-- What a request says of locks (OGC 09-025r2, sections 12.2.4, 13.2 and 15.2.3.1).
use Rattle.std.specs.Prelude.{ℕ, ◌==◌, if◌then◌else◌, List, Option, Some, None, unwrap_or, codes, Ok}
use Rattle.std.specs.Option.{option_and_then}
use Rattle.std.specs.Str.{bytes_eq}
use Rattle.wfs_ends.specs.Read.{◌>>=◌}
use Rattle.lock_table.specs.Ids.{id_of}
use Rattle.lock_table.specs.declared.id.LockId.{LockId}
use Rattle.lock_table.specs.declared.words.Release.{Release}
use Rattle.lock_table.specs.declared.words.Release.TheVariants.{Whole, Touched}
use Rattle.wfs_model.specs.declared.request.Take.{Take}
use Rattle.wfs_model.specs.declared.request.Take.TheVariants.{AllOrNone, Free}
use Rattle.wfs_model.specs.Terms.{refused, count_of}
use Rattle.request_parameters.specs.Said.{Said, Ask, read_if, read_or}

-- one of two things by its word
abbrev pub all_or_some : {A : Type 0} → A → A → List ℕ → Option A
all_or_some all some text = if bytes_eq text (codes "ALL") then Some all else (if bytes_eq text (codes "SOME") then Some some else None)

-- which of the features a lock takes: all or none, or those that are free
unfoldable pub take_of : Said → Ask Take
take_of said = read_or AllOrNone (all_or_some AllOrNone Free) (refused 11 (codes "lockAction")) (said (codes "lockAction"))

-- what a transaction releases of its lock: the whole lock, or the features that it touches
unfoldable pub release_of : Said → Ask Release
release_of said = read_or Whole (all_or_some Whole Touched) (refused 11 (codes "releaseAction")) (said (codes "releaseAction"))

-- the lock that a client has
unfoldable pub lock_of : Said → Ask (Option LockId)
lock_of said = read_if id_of (refused 15 (codes "lockId")) (said (codes "lockId"))

abbrev pub from_1_on : ℕ → Option ℕ
from_1_on n = if n == 0 then None else Some n

-- a number of seconds from 1 on
unfoldable pub seconds_in : List ℕ → Option ℕ
seconds_in text = option_and_then from_1_on (count_of text)

-- for how long a lock is to live, in seconds, where it is said
unfoldable pub expiry_of : Said → Ask (Option ℕ)
expiry_of said = read_if seconds_in (refused 11 (codes "expiry")) (said (codes "expiry"))

-- for how long a new lock lives: 300 seconds where it is not said
unfoldable pub period_of : Said → Ask ℕ
period_of said = expiry_of said >>= λ expiry. Ok (unwrap_or expiry 300)
