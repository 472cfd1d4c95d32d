-- Steps that make stored queries and drop them.
use Rattle.std.proofs.Common.{◌≡◌, ℕ, List, Result, Ok, Err, refl, subst}
use Rattle.wfs_ends.specs.Read.{◌>>=◌, FailsBut}
use Rattle.feature_values.specs.declared.schema.Schema.{Schema}
use Rattle.wfs_model.specs.declared.stored.StoredQuery.{StoredQuery}
use Rattle.wfs_model.specs.declared.fault.StoredFault.{StoredFault}
use Rattle.wfs_model.specs.declared.fault.StoredFault.TheVariants.{OutOfMemory as NoMemory}
use Rattle.wfs_model.specs.declared.reply.Refusal.{Refusal}
use Rattle.wfs_model.specs.declared.reply.Reply.TheVariants.{Created, Dropped}
use Rattle.wfs_model.specs.declared.request.Request.TheVariants.{CreateStored, DropStored}
use Rattle.wfs_model.specs.Kept.{IsKept}
use Rattle.wfs_model.specs.OfSchema.{IsOfSchema}
use Rattle.wfs_model.specs.Refusals.{or_refused, refusal_of}
use Rattle.wfs_model.specs.State.{State, durable}
use Rattle.wfs_model.specs.Step.{with_stored, settled, step}
use Rattle.wfs_model.specs.Stored.{created, dropped}
use Rattle.wfs_model.proofs.Keeping.{step_keeps}
use Rattle.transaction_core.specs.declared.fault.PlanFault.{PlanFault}
use Rattle.transaction_core.specs.declared.fault.PlanFault.TheVariants.{Refused, OutOfMemory}
use Rattle.transaction_core.specs.Plan.{IsRefusal}
use Rattle.wfs_machine.specs.Told.{IsSaid}

-- what is kept, with these stored queries
pub created_keeps : (schema : Schema) (state : State) (queries stored : List StoredQuery) → IsKept schema (durable state) → IsOfSchema schema (CreateStored queries) → created state.stored queries ≡ Ok stored → IsKept schema (record (durable state) { stored = stored })
unfolding step
created_keeps schema state queries stored kept fits e =
    subst (λ (r : Result (List StoredQuery) StoredFault). IsKept schema (durable (settled state 0 (or_refused r >>= λ now. Ok (with_stored state Created now))).1)) e (step_keeps schema state 0 (CreateStored queries) kept fits)

pub dropped_keeps : (schema : Schema) (state : State) (id : List ℕ) (stored : List StoredQuery) → IsKept schema (durable state) → IsOfSchema schema (DropStored id) → dropped state.stored id ≡ Ok stored → IsKept schema (record (durable state) { stored = stored })
unfolding step
dropped_keeps schema state id stored kept fits e =
    subst (λ (r : Result (List StoredQuery) StoredFault). IsKept schema (durable (settled state 0 (or_refused r >>= λ now. Ok (with_stored state Dropped now))).1)) e (step_keeps schema state 0 (DropStored id) kept fits)

-- a step is refused as its change is
pub stored_said : {A B : Type 0} (result : PlanFault) (fault : StoredFault) (r : Result A StoredFault) (more : A → Result B Refusal) → IsRefusal result (refusal_of fault) → r ≡ Err fault → IsSaid result (or_refused r >>= more)
stored_said (Refused refusal) fault r more is e = rw (e, is) refl
stored_said OutOfMemory fault r more is e = tt

pub created_said : {A B : Type 0} (result : PlanFault) (fault : StoredFault) (r : Result A StoredFault) (more : A → Result B Refusal) → IsRefusal result (refusal_of fault) → (fault ≡ NoMemory → result ≡ OutOfMemory) → FailsBut NoMemory fault r → IsSaid result (or_refused r >>= more)
created_said (Refused refusal) fault r more is memory e = stored_said (Refused refusal) fault r more is (e (λ none. let bad = memory none in absurd cc))
created_said OutOfMemory fault r more is memory e = tt
