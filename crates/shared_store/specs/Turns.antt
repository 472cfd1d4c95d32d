-- What a message of a seat comes to, in the words of what the seat has seen of the store's history.
use Rattle.std.specs.Prelude.{◌≡◌, ◌≢◌, ◌⊎◌, ℕ, ◌≤◌, List, [], ◌∷◌, ◌++◌, length, None, Some, Result, Ok, Err}
use mathlib.Core.List.{IsPrefix}
use Rattle.http_session.specs.declared.message.Message.{Message}
use Rattle.http_requests.specs.Asks.{asked}
use Rattle.http_requests.specs.Verdicts.{entry_of}
use Rattle.service_session.specs.declared.answered.Answered.{Answered}
use Rattle.service_session.specs.declared.answered.Answered.TheVariants as answered
use Rattle.service_session.specs.Solo.{answer_of}
use Rattle.snapshot_reads.specs.declared.book.Pair.{Pair}
use Rattle.shared_store.specs.Openings.{having, tally_of}
use Rattle.shared_store.specs.Published.{AreOf, FindsOne}
use Rattle.turnstile_core.specs.Places.{places_of}
use Rattle.turnstile_core.specs.Steps.{grown, saw, shown_at, tallied}
use Rattle.turnstile_core.specs.declared.view.Past.{Past}
use Rattle.wfs_ends.specs.Ends.{risen}
use Rattle.wfs_model.specs.declared.entry.Entry.{Entry}
use Rattle.wfs_model.specs.declared.fault.AskFault.TheVariants as ask
use Rattle.wfs_model.specs.declared.reply.Refusal.{Refusal}
use Rattle.wfs_model.specs.declared.reply.Reply.{Reply}
use Rattle.wfs_model.specs.declared.reply.Reply.TheVariants.{Refused}
use Rattle.wfs_model.specs.declared.request.Request.{Request}
use Rattle.wfs_model.specs.Changing.{IsChange}
use Rattle.wfs_model.specs.History.{reply_after}
use Rattle.wfs_model.specs.Read.{read}
use Rattle.wfs_model.specs.State.{clamped}
use Rattle.wfs_store.specs.declared.fault.StepFault.{StepFault}
use Rattle.wfs_store.specs.declared.fault.StepFault.TheVariants as fault
use Rattle.wfs_store.specs.Held.{Held, kept_of}
use Rattle.wfs_store.specs.Stepped.{taken_up, full_for, change_by}

-- whose an entry is
abbrev pub seat_of : Entry → ℕ
seat_of entry = entry.seat

module _ {T : Type 0} where
  -- a history that a seat finds: it begins with what the seat had seen, and no entry behind that is the seat's own
  pub record Finds (p : Past T Entry) (entries : List Entry) : Type 0 where
    pub begins : IsPrefix p.seen entries
    pub front : p.front ≤ length entries
    pub places : places_of seat_of p.number entries ≡ p.places

  -- the seat once it has found this history, of which so many entries are shown
  abbrev pub finding : Past T Entry → List Entry → ℕ → Past T Entry
  finding p entries shown = record p { seen = entries; front = length entries; shown = shown }

  -- these are the entries that a seat has seen and one more, which is its own
  abbrev pub HasOwnMore : Past T Entry → List Entry → Type 0
  HasOwnMore p entries = (entry : Entry) × (entries ≡ p.seen ++ entry ∷ []) × (seat_of entry ≡ p.number)

  -- a seat that has entered the last entry of a store, and shown so many, once it has passed the turn on
  abbrev pub having_left : {D : Type 0} → Past T Entry → Held D → ℕ → Past T Entry
  having_left p held shown = tallied (shown_at (grown p held.entries) shown) (tally_of held p.number)

  -- What a step on a history comes to for the seat that takes it. The reply is that of the entry at its place, which is the last one, and
  -- the seat has seen all up to it. A step is full exactly where its entry would pass a limit there, but for want of memory; and a store
  -- fault, which only an entry comes to that makes a change, is counted for the seat. So many entries are shown behind the step.
  abbrev pub Comes : {D : Type 0} → Held D → Past T Entry → Entry → Result Reply StepFault → ℕ → Past T Entry → Type 0
  Comes held p entry (Ok reply) shown q =
      (full_for held entry ≡ None) × (reply ≡ reply_after held.schema held.opening held.entries (taken_up held entry))
      × (q ≡ grown (finding p held.entries shown) (held.entries ++ taken_up held entry ∷ []))
  Comes held p entry (Err fault.StoreFault) shown q = (full_for held entry ≡ None) × (change_by held entry ≢ None) × (q ≡ tallied (finding p held.entries shown) (risen p.tally))
  Comes held p entry (Err (fault.Full at)) shown q = (full_for held entry ≡ Some at) × (q ≡ finding p held.entries shown)
  Comes held p entry (Err fault.OutOfMemory) shown q = q ≡ finding p held.entries shown

-- the seat has looked at how many entries are shown, or has not
abbrev pub HasLooked : {T : Type 0} → Past T Entry → Past T Entry → Type 0
HasLooked p q = (q ≡ p) ⊎ ((shown : ℕ) × (q ≡ saw p shown))

-- A read in a turn: it is answered by what the history leaves that the seat finds, all of it, or there was no memory.
pub record ReadsAt {D T : Type 0} (first : Held D) (p : Past T Entry) (m : Message) (moment : ℕ) (answer : Answered) (q : Past T Entry) (found : List Pair) : Type 0 where
  pub request : Request
  pub entries : List Entry
  pub shown : ℕ
  pub asks : asked m first.schema ≡ Ok request
  pub reads : IsChange request → ⊥
  pub finds : Finds p entries
  pub answers : (answer ≡ answered.Reply (read first.schema (kept_of (having first entries)) (clamped moment) request)) ⊎ (answer ≡ answered.OutOfMemory)
  pub knows : q ≡ finding p entries shown
  pub known : AreOf (having first entries) found

-- What a seat answers to a message that comes at a moment, and what it knows behind it, where its viewer had found these pairs and has then found
-- those. The message is refused by its bytes and the schema alone, and no turn is taken; or it asks for a change, and the store takes a step in
-- the seat's turn; or it only reads, and is answered by what the history leaves that the seat finds in its turn, all of it; or it is answered without
-- a turn from the one pair that the viewer found published, which is no older than what the seat knew, and is among what is shown; or there was no
-- memory, and nothing was done. In a turn all pairs that were found are seen to be of the history.
pub data Answers {D T : Type 0} (first : Held D) (p : Past T Entry) (found : List Pair) (m : Message) (moment : ℕ) (answer : Answered) (q : Past T Entry) (found' : List Pair) : Type 0 where
  by_bytes : (refusal : Refusal) → asked m first.schema ≡ Err (ask.Refused refusal) → answer ≡ answered.Reply (Refused refusal) → q ≡ p → found' ≡ found
      → Answers first p found m moment answer q found'
  stepped : (request : Request) (entries : List Entry) (result : Result Reply StepFault) (shown : ℕ) → asked m first.schema ≡ Ok request → IsChange request → Finds p entries
      → Comes (having first entries) p (entry_of p.number request m moment) result shown q → answer ≡ answer_of result
      → found' ≡ found → AreOf (having first q.seen) found' → Answers first p found m moment answer q found'
  only_read : (request : Request) (entries : List Entry) (shown : ℕ) → asked m first.schema ≡ Ok request → (IsChange request → ⊥) → Finds p entries
      → answer ≡ answered.Reply (read first.schema (kept_of (having first entries)) (clamped moment) request) → q ≡ finding p entries shown
      → FindsOne found found' → AreOf (having first entries) found' → Answers first p found m moment answer q found'
  published : (request : Request) (pair : Pair) (shown : ℕ) → asked m first.schema ≡ Ok request → (IsChange request → ⊥)
      → answer ≡ answered.Reply (read first.schema pair.content.kept (clamped moment) request) → p.front ≤ pair.front → pair.front ≤ shown
      → q ≡ saw p shown → found' ≡ found ++ pair ∷ [] → Answers first p found m moment answer q found'
  no_memory : (entries : List Entry) (shown : ℕ) → answer ≡ answered.OutOfMemory → (q ≡ p) ⊎ (Finds p entries × (q ≡ finding p entries shown))
      → FindsOne found found' → Answers first p found m moment answer q found'
