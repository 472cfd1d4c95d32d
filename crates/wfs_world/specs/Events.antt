-- What may happen to a world, and when; what it leaves; and what is seen of it. Each step that a seat of the running service takes is one of these
-- events, and so are a crash and a new start.
use Rattle.std.specs.Prelude.{◌≡◌, ℕ, ◌+◌, ◌<◌, ◌≤◌, ◌==◌, ◌||◌, Bool, true, false, if◌then◌else◌, List, [], ◌∷◌, ◌++◌, length, slice_index_or, slice_set, Option, Some, None, is_some, ⊤}
use Rattle.std.specs.List.{fold, list_any}
use Rattle.std.specs.Option.{option_to_list}
use Rattle.feature_values.specs.declared.schema.Schema.{Schema}
use Rattle.wfs_model.specs.declared.change.Change.{Change}
use Rattle.wfs_model.specs.declared.entry.Entry.{Entry}
use Rattle.wfs_model.specs.Changing.{IsChange}
use Rattle.wfs_model.specs.History.{after, timed, reply_after}
use Rattle.wfs_model.specs.OfSchema.{IsOfSchema}
use Rattle.wfs_model.specs.Read.{read}
use Rattle.wfs_model.specs.State.{durable, clamped}
use Rattle.wfs_world.specs.declared.event.Event.{Event}
use Rattle.wfs_world.specs.declared.event.Event.TheVariants.{Arrive, Take, Put, Enter, Leave, Read, Crash, Reopen}
use Rattle.wfs_world.specs.declared.event.PutOutcome.{PutOutcome}
use Rattle.wfs_world.specs.declared.event.PutOutcome.TheVariants.{NotNeeded, Done, FaultClean, FaultBegun, FaultHeld}
use Rattle.wfs_world.specs.declared.event.Seen.{Seen}
use Rattle.wfs_world.specs.declared.event.Seen.TheVariants.{Nothing, Answer, Fault, Reopened}
use Rattle.wfs_world.specs.declared.turn.Stage.{Stage}
use Rattle.wfs_world.specs.declared.turn.Stage.TheVariants.{Taken, Put as IsPut, Faulted, Entered}
use Rattle.wfs_world.specs.Scene.{Scene, opened_on, opening_of, state_of, change_in, stage_of}

-- ---- when an event may happen

-- the seat has a request in the line or in turn
abbrev pub is_waiting : Scene → ℕ → Bool
is_waiting w seat = list_any (λ entry. entry.seat == seat) w.line || is_some (stage_of w seat)

-- the first request of the line is this seat's
abbrev pub IsFirst : ℕ → List Entry → Type 0
IsFirst seat [] = ⊥
IsFirst seat (entry ∷ line) = entry.seat ≡ seat

-- How the journal may take a change, or that there is none. What a fault holds has to be begun.
abbrev pub IsOutcome : Option Change → Option Change → PutOutcome → Type 0
IsOutcome begun change NotNeeded = change ≡ None
IsOutcome begun change FaultHeld = (is_some change ≡ true) × (is_some begun ≡ true)
IsOutcome begun change outcome = is_some change ≡ true

-- a changing request that is in turn, and of which nothing is done yet
abbrev pub MayPut : Scene → PutOutcome → Option Stage → Type 0
MayPut w outcome (Some (Taken entry)) = IsChange entry.request × IsOutcome w.begun (change_in w entry) outcome
MayPut w outcome stage = ⊥

-- a request that is in turn, and whose change is in the journal, or which has none
abbrev pub MayEnter : Option Stage → Type 0
MayEnter (Some (IsPut entry)) = ⊤
MayEnter stage = ⊥

-- a request that is in turn, and is in the history, or was kept out of it by a fault, or was not put
abbrev pub MayLeave : Option Stage → Type 0
MayLeave None = ⊥
MayLeave (Some (IsPut entry)) = ⊥
MayLeave (Some stage) = ⊤

abbrev pub MayHappen : Scene → Event → Type 0
MayHappen w (Arrive seat moment size request) = (w.is_up ≡ true) × (seat < w.seats) × (is_waiting w seat ≡ false)
MayHappen w (Take seat) = (w.is_up ≡ true) × IsFirst seat w.line × (w.turn ≡ None)
MayHappen w (Put seat outcome) = (w.is_up ≡ true) × MayPut w outcome (stage_of w seat)
MayHappen w (Enter seat) = (w.is_up ≡ true) × MayEnter (stage_of w seat)
MayHappen w (Leave seat) = (w.is_up ≡ true) × MayLeave (stage_of w seat)
MayHappen w (Read seat front moment request) =
    (w.is_up ≡ true) × (IsChange request → ⊥) × (seat < w.seats) × (slice_index_or w.fronts seat 0 ≤ front) × (front ≤ length w.entries)
MayHappen w (Crash with_begun) = (w.is_up ≡ true) × (with_begun ≡ true → is_some w.begun ≡ true)
MayHappen w Reopen = w.is_up ≡ false

-- ---- what it leaves

-- the first request of the line is in turn
abbrev pub taken : Scene → List Entry → Scene
taken w [] = w
taken w (entry ∷ line) = record w { line = line; turn = Some (record { seat = entry.seat; stage = Taken entry }) }

-- how far a request has come that was put
abbrev pub stage_after : Entry → PutOutcome → Stage
stage_after entry NotNeeded = IsPut entry
stage_after entry Done = IsPut entry
stage_after entry outcome = Faulted

-- what the journal has more
abbrev pub added : Option Change → PutOutcome → List Change
added change Done = option_to_list change
added change outcome = []

-- what is begun then
abbrev pub begun_after : Option Change → Option Change → PutOutcome → Option Change
begun_after begun change NotNeeded = begun
begun_after begun change Done = None
begun_after begun change FaultClean = None
begun_after begun change FaultBegun = change
begun_after begun change FaultHeld = begun

abbrev pub put : Scene → ℕ → PutOutcome → Option Stage → Scene
put w seat outcome (Some (Taken entry)) = record w {
  turn = Some (record { seat = seat; stage = stage_after entry outcome });
  journal = w.journal ++ added (change_in w entry) outcome;
  begun = begun_after w.begun (change_in w entry) outcome;
}
put w seat outcome stage = w

-- the request enters the history at the moment at which it is taken up, and its seat has seen all of it
abbrev pub entered : Scene → ℕ → Option Stage → Scene
entered w seat (Some (IsPut entry)) =
    let now = timed (state_of w) entry in
    record w {
      entries = w.entries ++ now ∷ [];
      fronts = slice_set w.fronts seat (length w.entries + 1);
      turn = Some (record { seat = seat; stage = Entered (reply_after w.schema (opening_of w) w.entries now) });
    }
entered w seat stage = w

-- Only the journal stays, with what was begun where that is found in it.
abbrev pub crashed : Scene → Bool → Scene
crashed w with_begun = record (opened_on w.schema w.seats w.number (w.journal ++ (if with_begun then option_to_list w.begun else []))) { is_up = false }

abbrev pub happened : Scene → Event → Scene
happened w (Arrive seat moment size request) = record w { line = w.line ++ record { seat = seat; moment = moment; size = size; request = request } ∷ [] }
happened w (Take seat) = taken w w.line
happened w (Put seat outcome) = put w seat outcome (stage_of w seat)
happened w (Enter seat) = entered w seat (stage_of w seat)
happened w (Leave seat) = record w { turn = None }
happened w (Read seat front moment request) = record w { fronts = slice_set w.fronts seat front }
happened w (Crash with_begun) = crashed w with_begun
happened w Reopen = opened_on w.schema w.seats (w.number + 1) w.journal

-- ---- what is seen of it

-- at the end of a turn
abbrev pub seen_at_last : Option Stage → Seen
seen_at_last (Some (Entered reply)) = Answer reply
seen_at_last (Some Faulted) = Fault
seen_at_last stage = Nothing

abbrev pub seen : Scene → Event → Seen
seen w (Leave seat) = seen_at_last (stage_of w seat)
seen w (Read seat front moment request) = Answer (read w.schema (durable (after w.schema (opening_of w) w.entries front)) (clamped moment) request)
seen w Reopen = Reopened (w.number + 1)
seen w event = Nothing

-- ---- one after the other

-- a request that comes is one of the schema
abbrev pub IsEventOf : Schema → Event → Type 0
IsEventOf schema (Arrive seat moment size request) = IsOfSchema schema request
IsEventOf schema event = ⊤

-- each may happen behind those before it
abbrev pub MayAllHappen : Scene → List Event → Type 0
MayAllHappen w [] = ⊤
MayAllHappen w (event ∷ events) = MayHappen w event × MayAllHappen (happened w event) events

abbrev pub all_happened : Scene → List Event → Scene
all_happened w events = fold happened w events

abbrev pub all_seen : Scene → List Event → List Seen
all_seen w [] = []
all_seen w (event ∷ events) = seen w event ∷ all_seen (happened w event) events
