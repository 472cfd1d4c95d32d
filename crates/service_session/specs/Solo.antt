-- What a store is to the one session of seat 0.
use Rattle.std.specs.Prelude.{◌≡◌, ℕ, List, Result, Ok, Err}
use Rattle.http_session.specs.declared.message.Message.{Message}
use Rattle.http_requests.specs.Asks.{asked}
use Rattle.http_requests.specs.Verdicts.{Served, IsEntryOf, entry_of}
use Rattle.service_session.specs.declared.answered.Answered.{Answered}
use Rattle.service_session.specs.declared.answered.Answered.TheVariants as answered
use Rattle.service_session.specs.declared.service.Service.{Ghosts as Meaning}
use Rattle.wfs_model.specs.declared.entry.Entry.{Entry}
use Rattle.wfs_model.specs.declared.fault.AskFault.TheVariants as ask
use Rattle.wfs_model.specs.declared.reply.Refusal.{Refusal}
use Rattle.wfs_model.specs.declared.reply.Reply.{Reply}
use Rattle.wfs_model.specs.declared.reply.Reply.TheVariants.{Refused}
use Rattle.wfs_model.specs.declared.request.Request.{Request}
use Rattle.wfs_model.specs.Changing.{IsChange}
use Rattle.wfs_model.specs.Read.{read}
use Rattle.wfs_model.specs.State.{clamped}
use Rattle.wfs_store.specs.declared.fault.StepFault.{StepFault}
use Rattle.wfs_store.specs.declared.fault.StepFault.TheVariants as fault
use Rattle.wfs_store.specs.Held.{Held, kept_of}
use Rattle.wfs_store.specs.Stepped.{IsStepOf}

-- the number of the one seat that there is
abbrev pub own_seat : ℕ
own_seat = 0

-- the history of a store, as a service's
abbrev pub served_of : {D : Type 0} → Held D → Served
served_of held = record { schema = held.schema; opening = held.opening; entries = held.entries }

-- what is answered where a step came to this
abbrev pub answer_of : Result Reply StepFault → Answered
answer_of (Ok reply) = answered.Reply reply
answer_of (Err fault.StoreFault) = answered.StoreFault
answer_of (Err (fault.Full limit)) = answered.Full
answer_of (Err fault.OutOfMemory) = answered.OutOfMemory

-- What a store answers to a message of seat 0 that comes at a moment, and what it is behind it. The message is refused by its bytes and the
-- schema alone; or it asks for a change, and the store takes a step; or it only reads, and is answered by what the whole history so far leaves;
-- or there was no memory, and nothing was done.
pub data StoreAnswers {D : Type 0} (time : D → ℕ) (since : D → ℕ → List ℕ → Type 0) (faults : D → ℕ) (old : Held D) (m : Message) (moment : ℕ) : Answered → Held D → Type 0 where
  by_bytes : (refusal : Refusal) → asked m old.schema ≡ Err (ask.Refused refusal) → StoreAnswers time since faults old m moment (answered.Reply (Refused refusal)) old
  stepped : (request : Request) → asked m old.schema ≡ Ok request → IsChange request → (result : Result Reply StepFault) (new : Held D)
      → IsStepOf time since faults old (entry_of own_seat request m moment) result new → StoreAnswers time since faults old m moment (answer_of result) new
  only_read : (request : Request) → asked m old.schema ≡ Ok request → (IsChange request → ⊥)
      → StoreAnswers time since faults old m moment (answered.Reply (read old.schema (kept_of old) (clamped moment) request)) old
  out_of_memory : StoreAnswers time since faults old m moment answered.OutOfMemory old

-- What always becomes of a store: it takes steps, one behind the other, each of an entry of seat 0 that asks for a change.
pub data TakesSteps {D : Type 0} (time : D → ℕ) (since : D → ℕ → List ℕ → Type 0) (faults : D → ℕ) (old : Held D) : Held D → Type 0 where
  none : TakesSteps time since faults old old
  more : (mid new : Held D) → TakesSteps time since faults old mid → (entry : Entry) (result : Result Reply StepFault) → IsChange entry.request
      → IsEntryOf own_seat mid.schema entry → IsStepOf time since faults mid entry result new → TakesSteps time since faults old new

-- steps, and steps behind them
pub steps_both : {D : Type 0} (time : D → ℕ) (since : D → ℕ → List ℕ → Type 0) (faults : D → ℕ) (a b c : Held D)
    → TakesSteps time since faults a b → TakesSteps time since faults b c → TakesSteps time since faults a c
steps_both time since faults a b c first none = first
steps_both time since faults a b c first (more mid new rest entry result change own is) = more mid new (steps_both time since faults a b mid first rest) entry result change own is

-- A store as sessions of seat 0 see it.
abbrev pub store_meaning : {D : Type 0} (time : D → ℕ) (since : D → ℕ → List ℕ → Type 0) (faults : D → ℕ) → Meaning (Held D)
store_meaning time since faults = record {
  schema = λ held. held.schema;
  judges = λ old m is_last moment answer new. StoreAnswers time since faults old m moment answer new;
  leads = λ old new. TakesSteps time since faults old new;
}
