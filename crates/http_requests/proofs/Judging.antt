-- What a call comes to is the verdict on a message.
use Rattle.std.proofs.Common.{◌≡◌, ℕ, Result, Ok, Err, refl}
use Rattle.std.specs.Prelude.{IfOk, OnErr}
use Rattle.http_session.specs.declared.message.Message.{Message}
use Rattle.wfs_model.specs.declared.request.Request.{Request}
use Rattle.wfs_model.specs.declared.reply.Refusal.{Refusal}
use Rattle.wfs_model.specs.declared.reply.Reply.{Reply}
use Rattle.wfs_model.specs.declared.reply.Reply.TheVariants.{Refused}
use Rattle.wfs_model.specs.declared.fault.AskFault.TheVariants as ask
use Rattle.wfs_model.specs.Changing.{IsChange}
use Rattle.wfs_model.specs.OfSchema.{IsOfSchema}
use Rattle.wfs_model.specs.State.{durable, clamped}
use Rattle.wfs_model.specs.Read.{read}
use Rattle.http_requests.specs.Asks.{asked}
use Rattle.http_requests.specs.Verdicts.{Served, state_of, with_entry, next_entry, reply_to, Verdict, by_bytes, entered, only_read, Grows}
use Rattle.http_requests.proofs.Growing.{grows_none, grows_entry}

module _ (served : Served) (seat : ℕ) (m : Message) (moment : ℕ) where
  pub was_refused : (refusal : Refusal) → asked m served.schema ≡ Err (ask.Refused refusal) → Verdict served seat m moment (Refused refusal) served
  was_refused refusal is = by_bytes refusal is refl refl

  module _ {E : Type 0} (request : Request) (is : asked m served.schema ≡ Ok request) where
    pub was_entered : (r : Result Reply E) (served' : Served) → IsChange request → IfOk r (λ reply. reply ≡ reply_to served (next_entry served seat request m moment))
        → IfOk r (λ reply. served' ≡ with_entry served (next_entry served seat request m moment)) → IfOk r (λ reply. Verdict served seat m moment reply served')
    was_entered (Ok reply) served' change replies joins = entered request is change replies joins
    was_entered (Err fault) served' change replies joins = tt

    pub was_read : (r : Result Reply E) → (IsChange request → ⊥) → IfOk r (λ reply. reply ≡ read served.schema (durable (state_of served)) (clamped moment) request) → IfOk r (λ reply. Verdict served seat m moment reply served)
    was_read (Ok reply) reads replies = only_read request is reads replies refl
    was_read (Err fault) reads replies = tt

  -- an entry was taken up, or there was no memory for it
  pub has_grown : {E : Type 0} (request : Request) (r : Result Reply E) (served' : Served) → IsChange request → IsOfSchema served.schema request
      → IfOk r (λ reply. served' ≡ with_entry served (next_entry served seat request m moment)) → OnErr r (served' ≡ served) → Grows seat served served'
  has_grown request (Ok reply) served' change fitting joins same = rw joins (grows_entry seat served m moment request change fitting)
  has_grown request (Err fault) served' change fitting joins same = rw same (grows_none seat served)
