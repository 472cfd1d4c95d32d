-- All workers of a store together: they fit one history.
use Rattle.std.specs.Prelude.{◌≡◌, ℕ, ◌≤◌, List, [], ◌∷◌, length, slice_get, Option, Some, ⊤}
use mathlib.Core.List.{IsPrefix}
use Rattle.atomic_table.specs.Seated.{TableId}
use Rattle.feature_values.specs.declared.schema.Schema.{Schema}
use Rattle.service_doors.specs.Accepting.{Accepting}
use Rattle.session_workers.specs.Working.{IsWorked, stand}
use Rattle.snapshot_reads.specs.declared.book.Pair.{Pair}
use Rattle.store_server.specs.declared.slot.Ended.{Ended}
use Rattle.store_server.specs.declared.slot.Served.{Served}
use Rattle.store_server.specs.declared.slot.Served.TheVariants as outcome
use Rattle.store_server.specs.declared.slot.Slot.{Slot}
use Rattle.store_server.specs.Giving.{fresh_seat}
use Rattle.shared_store.specs.declared.counter.Counter.{Counter}
use Rattle.shared_store.specs.Knowing.{Known}
use Rattle.shared_store.specs.Openings.{HasLegalHistory, StaysOpen, tally_of}
use Rattle.shared_store.specs.Published.{AreOf}
use Rattle.shared_store.specs.Seats.{Seated, desk_meaning}
use Rattle.shared_store.specs.Turns.{seat_of}
use Rattle.turnstile_core.specs.Places.{places_of}
use Rattle.wfs_store.specs.Held.{Held}

module _ {D : Type 0} where
  -- a desk at the turnstile of this name, which serves this schema, whose seat knows this, and whose viewer has found these pairs
  abbrev pub desk_at : TableId → Schema → Known D → List Pair → Seated D
  desk_at name schema known found = record { name = name; schema = schema; past = known; found = found }

-- ---- one worker, and all

module _ {A C G D : Type 0} (accepting : A → Accepting) (moments : C → Option (List ℕ)) (limit : Option ℕ) where
  -- A worker at the turnstile of this name did its work from its slot on, one session after the other: its seat knew `old` before the first
  -- session, and `new` behind the last one, when its viewer had found these pairs.
  abbrev pub Works : TableId → Schema → Slot A C G → Known D → Ended A C G → Known D → List Pair → Type 0
  Works name schema slot old ended new found = IsWorked desk_meaning limit (stand (desk_at name schema old []) (moments slot.clock)) (accepting slot.acceptor)
      ended.end (stand (desk_at name schema new found) (moments ended.slot.clock)) (accepting ended.slot.acceptor)

  -- The worker of a slot fits the history of a store, which began with `first`: its sessions, one after the other, began with a fresh seat of its
  -- number, and what the seat knows behind them is of that history. What it has seen is a beginning of the history. Each pair that it found published
  -- is a front in the history, and what outlives the process there. The entries of its number stand at just the places at which it entered one. The
  -- store's tally has for its number just the store faults that it answered.
  pub record WorkerFits (name : TableId) (first : Counter D) (store : Held D) (many number : ℕ) (slot : Slot A C G) (ended : Ended A C G) : Type 0 where
    pub knows : Known D
    pub found : List Pair
    pub worked : Works name first.store.schema slot (fresh_seat (first ∷ []) many number) ended knows found
    pub begins : IsPrefix knows.seen store.entries
    pub published : AreOf store found
    pub places : places_of seat_of number store.entries ≡ knows.places
    pub tally : tally_of store number ≡ knows.tally

  -- A run, which began with the store `first` and left another: the history is legal, and the opening is the same. The worker of each slot, counted
  -- from 0, fits that history with the slot's number. No other number has an entry or a store fault.
  pub record RunFits (faults : D → ℕ) (first : Held D) (slots : List (Slot A C G)) (store : Held D) (ended : List (Ended A C G)) : Type 0 where
    pub name : TableId
    pub counter : Counter D
    pub began : counter.store ≡ first
    pub legal : HasLegalHistory store
    pub opening : StaysOpen faults first store
    pub as_many : length ended ≡ length slots
    pub each : (number : ℕ) (slot : Slot A C G) (end : Ended A C G) → slice_get slots number ≡ Some slot → slice_get ended number ≡ Some end
        → WorkerFits name counter store (length slots) number slot end
    pub others : (number : ℕ) → length slots ≤ number → (places_of seat_of number store.entries ≡ []) × (tally_of store number ≡ 0)

-- ---- what is handed back

module _ {A C G D : Type 0} where
  -- where the service ran, of the store and the workers that come back
  abbrev pub IfRan : Served A C G D → (Held D → List (Ended A C G) → Type 0) → Type 0
  IfRan (outcome.Ran store workers) P = P store workers.items
  IfRan (outcome.NoMemory store slots) P = ⊤

  -- where there was no memory, of the store and the slots that come back
  abbrev pub IfNoMemory : Served A C G D → (Held D → List (Slot A C G) → Type 0) → Type 0
  IfNoMemory (outcome.Ran store workers) P = ⊤
  IfNoMemory (outcome.NoMemory store slots) P = P store slots.items
