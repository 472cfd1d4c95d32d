-- How locks are taken and named (OGC 09-025r2, sections 12 and 15.2.3). What SOME leaves out, and what stands where nothing is locked, is this
-- project's own.
use Rattle.std.specs.Prelude.{ℕ, ◌+◌, ◌==◌, Bool, not, if◌then◌else◌, is_some, List, [], length, filter, Option, Some, None, Result, Ok, Err}
use Rattle.wfs_ends.specs.Read.{◌>>=◌}
use Rattle.feature_values.specs.declared.feature.Rid.{Rid}
use Rattle.feature_values.specs.declared.schema.Schema.{Schema}
use Rattle.lock_table.specs.declared.id.LockId.{LockId}
use Rattle.lock_table.specs.declared.words.LockStatus.{LockStatus}
use Rattle.lock_table.specs.declared.words.LockStatus.TheVariants.{Live, NeverGiven, Expired}
use Rattle.lock_table.specs.Lock.{Lock}
use Rattle.lock_table.specs.Held.{holder, first_held, status}
use Rattle.lock_table.specs.Steps.{granted}
use Rattle.wfs_model.specs.declared.request.Take.{Take}
use Rattle.wfs_model.specs.declared.request.Take.TheVariants.{AllOrNone, Free}
use Rattle.wfs_model.specs.declared.reply.Refusal.{Refusal}
use Rattle.wfs_model.specs.Refusals.{unknown_lock, expired_lock, is_not_free}
use Rattle.wfs_model.specs.State.{State}

-- ---- identifiers

-- the number of the lock that an identifier names, or how the request is refused
abbrev pub number_by : LockId → LockStatus → Result ℕ Refusal
number_by id Live = Ok id.number
number_by id NeverGiven = Err unknown_lock
number_by id Expired = Err expired_lock

-- an identifier names a live lock, or the request is refused
unfoldable pub named : State → ℕ → LockId → Result ℕ Refusal
named state moment id = number_by id (status state.opening state.given state.locks moment id)

-- the same of an identifier that need not be there
abbrev pub named_if : State → ℕ → Option LockId → Result (Option ℕ) Refusal
named_if state moment None = Ok None
named_if state moment (Some id) = named state moment id >>= λ number. Ok (Some number)

-- ---- locks that are taken

-- selected features, by whether the lock takes them
pub record Division : Type 0 where
  pub taken : List Rid
  pub missed : List Rid

abbrev pub is_held : List Lock → ℕ → Rid → Bool
is_held locks moment feature = is_some (holder locks moment feature)

-- all are taken, or the request is refused because of the first that has a holder
abbrev pub all_taken : Schema → List Rid → Option Rid → Result Division Refusal
all_taken schema ids None = Ok (record { taken = ids; missed = [] })
all_taken schema ids (Some feature) = Err (is_not_free schema feature)

-- which of the selected features a lock takes: all, or just those that have no holder
unfoldable pub divided : Schema → List Lock → ℕ → Take → List Rid → Result Division Refusal
divided schema locks moment AllOrNone ids = all_taken schema ids (first_held locks moment ids)
divided schema locks moment Free ids =
    Ok (record { taken = filter (λ id. not (is_held locks moment id)) ids; missed = filter (is_held locks moment) ids })

-- the identifier of the lock that takes these features; where they are none, there is no lock
unfoldable pub lock_on : State → List Rid → Option LockId
lock_on state taken = if length taken == 0 then None else Some (record { opening = state.opening; number = state.given + 1 })

-- the state with a lock on these features for a period; where they are none, there is no lock
unfoldable pub locked : State → ℕ → ℕ → List Rid → State
locked state moment period taken =
    if length taken == 0 then state else record state { locks = granted moment state.given taken period state.locks; given = state.given + 1 }
