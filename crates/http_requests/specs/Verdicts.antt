-- What a service with one history answers to a message, and how its history grows.
use Rattle.std.specs.Prelude.{◌≡◌, ℕ, List, [], ◌∷◌, ◌++◌, length, All, Ok, Err}
use Rattle.http_session.specs.declared.message.Message.{Message}
use Rattle.feature_values.specs.declared.schema.Schema.{Schema}
use Rattle.wfs_model.specs.declared.entry.Entry.{Entry}
use Rattle.wfs_model.specs.declared.request.Request.{Request}
use Rattle.wfs_model.specs.declared.reply.Refusal.{Refusal}
use Rattle.wfs_model.specs.declared.reply.Reply.{Reply}
use Rattle.wfs_model.specs.declared.reply.Reply.TheVariants.{Refused}
use Rattle.wfs_model.specs.declared.fault.AskFault.TheVariants as ask
use Rattle.wfs_model.specs.Changing.{IsChange}
use Rattle.wfs_model.specs.OfSchema.{IsOfSchema}
use Rattle.wfs_model.specs.State.{State, durable, first_state, clamped}
use Rattle.wfs_model.specs.Read.{read}
use Rattle.wfs_model.specs.History.{after_all, timed, reply_after, IsLegal}
use Rattle.http_requests.specs.Asks.{asked, size_of}

-- a service with one history: the schema that it serves, the state in which its opening began, and the entries that it took up since
pub record Served : Type 0 where
  pub schema : Schema
  pub opening : State
  pub entries : List Entry

-- the service of the first opening, with no entry
abbrev pub first_served : Schema → Served
first_served schema = record { schema = schema; opening = first_state (length schema.types); entries = [] }

-- the state after all entries
abbrev pub state_of : Served → State
state_of served = after_all served.schema served.opening served.entries

abbrev pub with_entry : Served → Entry → Served
with_entry served entry = record served { entries = served.entries ++ entry ∷ [] }

-- ---- verdicts

-- the entry of a request that a message of a seat asked at a moment
abbrev pub entry_of : ℕ → Request → Message → ℕ → Entry
entry_of seat request m moment = record { seat = seat; moment = moment; size = size_of m; request = request }

-- the same at the moment at which the service takes it up: never before the last one
abbrev pub next_entry : Served → ℕ → Request → Message → ℕ → Entry
next_entry served seat request m moment = timed (state_of served) (entry_of seat request m moment)

-- the reply to an entry that comes next
abbrev pub reply_to : Served → Entry → Reply
reply_to served entry = reply_after served.schema served.opening served.entries entry

-- The verdict on a message of a seat that comes at a moment, and what the service is behind it. It is refused by its bytes and the schema
-- alone; or what it asks may change something, and it joins the history as an entry, with the reply of its step; or it only reads, and is
-- answered by the state after the whole history so far.
pub data Verdict (served : Served) (seat : ℕ) (m : Message) (moment : ℕ) (reply : Reply) (served' : Served) : Type 0 where
  by_bytes : (refusal : Refusal) → asked m served.schema ≡ Err (ask.Refused refusal) → reply ≡ Refused refusal → served' ≡ served → Verdict served seat m moment reply served'
  entered : (request : Request) → asked m served.schema ≡ Ok request → IsChange request → reply ≡ reply_to served (next_entry served seat request m moment)
      → served' ≡ with_entry served (next_entry served seat request m moment) → Verdict served seat m moment reply served'
  only_read : (request : Request) → asked m served.schema ≡ Ok request → (IsChange request → ⊥) → reply ≡ read served.schema (durable (state_of served)) (clamped moment) request
      → served' ≡ served → Verdict served seat m moment reply served'

-- ---- growth

-- an entry of a seat, whose request is such as the schema allows
pub record IsEntryOf (seat : ℕ) (schema : Schema) (entry : Entry) : Type 0 where
  pub own : entry.seat ≡ seat
  pub fitting : IsOfSchema schema entry.request

-- All that the messages of a seat can have done to a service: entries of this seat came behind the earlier ones, in a legal order.
pub record Grows (seat : ℕ) (served served' : Served) : Type 0 where
  pub schema : served'.schema ≡ served.schema
  pub opening : served'.opening ≡ served.opening
  pub more : List Entry
  pub entries : served'.entries ≡ served.entries ++ more
  pub legal : IsLegal served.schema (state_of served) more
  pub own : All (IsEntryOf seat served.schema) more

-- A history is legal from its opening on: each entry is a changing request, at a moment not before the last one.
abbrev pub HasLegalHistory : Served → Type 0
HasLegalHistory served = IsLegal served.schema served.opening served.entries

-- each entry is of the one seat, and its request is such as the schema allows
abbrev pub HasEntriesOf : ℕ → Served → Type 0
HasEntriesOf seat served = All (IsEntryOf seat served.schema) served.entries
