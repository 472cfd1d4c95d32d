-- How workers come to their seats, and leave them.
use Rattle.std.specs.Prelude.{◌≡◌, ℕ, List, [], ◌∷◌, length, slice_get, Option, Some, None, All}
use Rattle.atomic_table.specs.Seated.{TableId}
use Rattle.feature_values.specs.declared.schema.Schema.{Schema}
use Rattle.service_doors.specs.Accepting.{Accepting}
use Rattle.session_workers.specs.declared.worker.Worker.{Worker}
use Rattle.snapshot_reads.specs.declared.book.Pair.{Pair}
use Rattle.snapshot_reads.specs.declared.viewer.Viewer.{Viewer}
use Rattle.store_server.specs.declared.slot.Ended.{Ended}
use Rattle.store_server.specs.declared.slot.Slot.{Slot}
use Rattle.store_server.specs.Serving.{desk_at, Works}
use Rattle.shared_store.specs.declared.counter.Counter.{Counter}
use Rattle.shared_store.specs.Counters.{IsViewerAt, IsViewerOf}
use Rattle.shared_store.specs.Knowing.{Known}
use Rattle.shared_store.specs.Published.{pairs_of}
use Rattle.shared_store.specs.Seats.{Seated}
use Rattle.turnstile_core.specs.declared.view.Past.{Past}

-- seats stand in the order of their numbers
abbrev pub AreInOrder : {T E : Type 0} → List (Past T E) → Type 0
AreInOrder {T} {E} seats = (number : ℕ) (known : Past T E) → slice_get seats number ≡ Some known → known.number ≡ number

-- a viewer, where there is one, that may serve a seat of a turnstile that began with this: it views what the publisher there publishes, which is of
-- this schema, and has found nothing yet
pub record MayServe {D : Type 0} (schema : Schema) (first : Counter D) (viewer : Option Viewer) : Type 0 where
  pub of : IsViewerOf schema viewer
  pub at : IsViewerAt first viewer
  pub none : pairs_of viewer ≡ []

-- seats of one turnstile, and viewers that may serve them
pub record HaveViews {D : Type 0} (schema : Schema) (seats : List (Known D)) (viewers : List (Option Viewer)) : Type 0 where
  pub first : Counter D
  pub began : All (λ p. p.origin ≡ first ∷ []) seats
  pub serve : All (MayServe schema first) viewers

-- a worker that is to serve the links of a slot
abbrev pub worker_of : {S A C G : Type 0} → S → Slot A C G → Worker S A C G
worker_of service slot = record { service = service; acceptor = slot.acceptor; clock = slot.clock; gate = slot.gate; end = None }

-- what a worker was given, as it left it
abbrev pub slot_of : {S A C G : Type 0} → Worker S A C G → Slot A C G
slot_of worker = record { acceptor = worker.acceptor; clock = worker.clock; gate = worker.gate }

-- a worker that has ended, and what comes back of it
pub record HasLeft {S A C G : Type 0} (worker : Worker S A C G) (ended : Ended A C G) : Type 0 where
  pub slot : ended.slot ≡ slot_of worker
  pub end : worker.end ≡ Some ended.end

-- two lists of one length, element by element
abbrev pub zip_by : {A B W : Type 0} → (A → B → W) → List A → List B → List W
zip_by f [] ys = []
zip_by f (x ∷ xs) [] = []
zip_by f (x ∷ xs) (y ∷ ys) = f x y ∷ zip_by f xs ys

module _ {A C G D : Type 0} where
  -- a worker for each slot, at the seat of the same place
  abbrev pub workers_at : TableId → Schema → List (Slot A C G) → List (Known D) → List (Worker (Seated D) A C G)
  workers_at name schema slots seats = zip_by (λ slot known. worker_of (desk_at name schema known []) slot) slots seats

module _ {A C G D : Type 0} (accepting : A → Accepting) (moments : C → Option (List ℕ)) (limit : Option ℕ) where
  -- the workers at these seats did their work, each from its slot on, and left the seats in the same order, with what their viewers found
  pub record HaveWorked (name : TableId) (schema : Schema) (slots : List (Slot A C G)) (old : List (Known D)) (ended : List (Ended A C G)) (new : List (Known D)) (found : List (List Pair)) : Type 0 where
    pub as_many : length ended ≡ length slots
    pub seats : length new ≡ length slots
    pub views : length found ≡ length slots
    pub each : (number : ℕ) (slot : Slot A C G) (before : Known D) (end : Ended A C G) (after : Known D) (pairs : List Pair) → slice_get slots number ≡ Some slot → slice_get old number ≡ Some before
        → slice_get ended number ≡ Some end → slice_get new number ≡ Some after → slice_get found number ≡ Some pairs → Works accepting moments limit name schema slot before end after pairs
