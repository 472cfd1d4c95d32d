-- What a changing request answers, and the state that it leaves (OGC 09-025r2, sections 12 to 15). What is judged first is this project's own:
-- the stored queries that it uses, in order; then the lock that it names; then its work.
use Rattle.std.specs.Prelude.{ℕ, List, [], length, Option, Some, None, Result, Ok, Err}
use Rattle.wfs_ends.specs.Read.{◌>>=◌}
use Rattle.feature_values.specs.declared.feature.Rid.{Rid}
use Rattle.feature_values.specs.declared.schema.Schema.{Schema}
use Rattle.query_core.specs.Selecting.{all_selected, held}
use Rattle.query_core.specs.Paging.{page_of}
use Rattle.lock_table.specs.declared.id.LockId.{LockId}
use Rattle.lock_table.specs.declared.words.Release.{Release}
use Rattle.lock_table.specs.Lock.{Lock as HeldLock}
use Rattle.lock_table.specs.Held.{features_of}
use Rattle.lock_table.specs.Steps.{renewed, released}
use Rattle.wfs_model.specs.declared.action.Action.{Action}
use Rattle.wfs_model.specs.declared.asked.Asked.{Asked}
use Rattle.wfs_model.specs.declared.asked.Present.{Present}
use Rattle.wfs_model.specs.declared.stored.StoredQuery.{StoredQuery}
use Rattle.wfs_model.specs.declared.request.Take.{Take}
use Rattle.wfs_model.specs.declared.request.Request.{Request}
use Rattle.wfs_model.specs.declared.request.Request.TheVariants.{GetLocked, Lock, Renew, Transact, CreateStored, DropStored}
use Rattle.wfs_model.specs.declared.reply.Refusal.{Refusal}
use Rattle.wfs_model.specs.declared.reply.Reply.{Reply}
use Rattle.wfs_model.specs.declared.reply.Reply.TheVariants.{Collection, Locked, Transacted, Created, Dropped, Refused}
use Rattle.wfs_model.specs.State.{State, durable}
use Rattle.wfs_model.specs.Refusals.{or_refused}
use Rattle.wfs_model.specs.Stored.{created, dropped}
use Rattle.wfs_model.specs.Expand.{all_expanded}
use Rattle.wfs_model.specs.Acts.{Acting}
use Rattle.wfs_model.specs.Plans.{Planning, permitted, planned_all}
use Rattle.wfs_model.specs.Locking.{named, named_if, divided, lock_on, locked}
use Rattle.wfs_model.specs.Read.{read}

-- a reply, and a state that may have another last moment yet
abbrev pub Done : Type 0
Done = Reply × State

-- ---- locks

-- a lock on what is asked
unfoldable pub lock_taken : Schema → State → ℕ → List Asked → Take → ℕ → Result Done Refusal
lock_taken schema state moment asked take period =
    or_refused (all_expanded schema state.stored asked) >>= λ queries.
    divided schema state.locks moment take (all_selected state.features queries) >>= λ division.
    Ok (Locked (lock_on state division.taken) division.taken division.missed, locked state moment period division.taken)

-- a page of what is asked, and a lock on it; the features that the lock takes are presented
unfoldable pub page_locked : Schema → State → ℕ → Present → List Asked → Take → ℕ → Result Done Refusal
page_locked schema state moment present asked take period =
    or_refused (all_expanded schema state.stored asked) >>= λ queries.
    let ids = all_selected state.features queries in
    divided schema state.locks moment take (page_of present.start present.count ids) >>= λ division.
    Ok (Collection moment (length ids) (held state.features division.taken) (lock_on state division.taken) None None, locked state moment period division.taken)

-- a new deadline for a lock, whose features are told
unfoldable pub lock_renewed : State → ℕ → LockId → Option ℕ → Result Done Refusal
lock_renewed state moment id period =
    named state moment id >>= λ number.
    Ok (Locked (Some id) (features_of state.locks number) [], record state { locks = renewed moment number period state.locks })

-- ---- transactions

-- what a transaction with the lock of this number, or without one, comes to
unfoldable pub plan_with : Schema → State → ℕ → List Action → Option ℕ → Result Planning Refusal
plan_with schema state moment actions number =
    planned_all (permitted schema state.locks moment number) state.features state.counters actions

-- what a transaction comes to
unfoldable pub plan_of : Schema → State → ℕ → Option LockId → List Action → Result Planning Refusal
plan_of schema state moment lock actions = named_if state moment lock >>= λ number. plan_with schema state moment actions number

abbrev pub transacted : Acting → Reply
transacted at = Transacted at.deleted at.inserted at.updated at.replaced

-- the locks after a transaction that names one, or none
abbrev pub unlocked : List HeldLock → ℕ → Option LockId → List Rid → Release → List HeldLock
unlocked locks moment None touched release = locks
unlocked locks moment (Some id) touched release = released moment id.number touched release locks

-- the reply and the state of what a transaction came to
unfoldable pub carried_out : State → ℕ → Option LockId → Release → Planning → Done
carried_out state moment lock release plan = (
  transacted plan.at,
  record state {
    features = plan.at.features;
    counters = plan.at.counters;
    locks = unlocked state.locks moment lock plan.touched release;
  },
)

-- ---- stored queries

abbrev pub with_stored : State → Reply → List StoredQuery → Done
with_stored state reply stored = (reply, record state { stored = stored })

-- ---- requests

-- At the end of each step the last moment is the moment of the step. A refusal changes nothing else.
abbrev pub settled : State → ℕ → Result Done Refusal → Done
settled state moment (Ok done) = (done.0, record done.1 { last = moment })
settled state moment (Err refusal) = (Refused refusal, record state { last = moment })

-- The reply to a changing request at a moment that is not before the last one, and the state that it leaves. A read leaves the state as it was.
unfoldable pub step : Schema → State → ℕ → Request → Done
step schema state moment (GetLocked present asked take period) = settled state moment (page_locked schema state moment present asked take period)
step schema state moment (Lock asked take period) = settled state moment (lock_taken schema state moment asked take period)
step schema state moment (Renew lock period) = settled state moment (lock_renewed state moment lock period)
step schema state moment (Transact lock release actions) =
    settled state moment (plan_of schema state moment lock actions >>= λ plan. Ok (carried_out state moment lock release plan))
step schema state moment (CreateStored queries) =
    settled state moment (or_refused (created state.stored queries) >>= λ stored. Ok (with_stored state Created stored))
step schema state moment (DropStored id) =
    settled state moment (or_refused (dropped state.stored id) >>= λ stored. Ok (with_stored state Dropped stored))
step schema state moment request = (read schema (durable state) moment request, state)
