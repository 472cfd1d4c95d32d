-- Requests that make stored queries and drop them are planned as their steps are taken.
use Rattle.std.proofs.Common.{◌≡◌, ℕ, true, false, List, ◌++◌, get_or, Some, Result, Ok, Err, refl, ap, sym, ◌∙◌, subst}
use Rattle.std.specs.Prelude.{if◌then◌else◌}
use Rattle.wfs_ends.specs.Read.{◌>>=◌}
use Rattle.feature_values.specs.declared.schema.Schema.{Schema}
use Rattle.wfs_model.specs.declared.change.Change.{Change}
use Rattle.wfs_model.specs.declared.change.Change.TheVariants.{Created as NewQueries, Dropped as Gone}
use Rattle.wfs_model.specs.declared.fault.StoredFault.{StoredFault}
use Rattle.wfs_model.specs.declared.fault.StoredFault.TheVariants.{DuplicateId, Unknown}
use Rattle.wfs_model.specs.declared.reply.Reply.{Reply}
use Rattle.wfs_model.specs.declared.reply.Reply.TheVariants.{Created, Dropped}
use Rattle.wfs_model.specs.declared.request.Request.{Request}
use Rattle.wfs_model.specs.declared.request.Request.TheVariants.{CreateStored, DropStored}
use Rattle.wfs_model.specs.declared.stored.StoredQuery.{StoredQuery}
use Rattle.wfs_model.specs.Played.{change_of, if_accepted}
use Rattle.wfs_model.specs.Refusals.{or_refused, refusal_of}
use Rattle.wfs_model.specs.State.{State}
use Rattle.wfs_model.specs.Step.{with_stored, settled, step}
use Rattle.wfs_model.specs.Stored.{created, dropped, is_there, without_query}
use Rattle.transaction_core.specs.declared.fault.PlanFault.{PlanFault}
use Rattle.transaction_core.specs.declared.fault.PlanFault.TheVariants.{Refused, OutOfMemory}
use Rattle.transaction_core.specs.Plan.{IsRefusal}
use Rattle.request_plans.specs.declared.plan.LockWork.TheVariants.{Nothing}
use Rattle.request_plans.specs.declared.plan.Plan.{Plan}
use Rattle.request_plans.specs.Carried.{locks_after}
use Rattle.request_plans.specs.Coming.{Comes, ComesTo}
use Rattle.request_plans.specs.Plan.{CanPlay, inserted_in, deleted_in}
use Rattle.request_plans.proofs.Leaving.{comes_done, comes_refused}

-- a change of stored queries that may be made
stored_comes : (schema : Schema) (state : State) (moment : ℕ) (request : Request) (reply : Reply) (change : Change) (r : Result (List StoredQuery) StoredFault) (stored : List StoredQuery) → inserted_in reply ≡ 0 → deleted_in reply ≡ 0
    → step schema state moment request ≡ settled state moment (or_refused r >>= λ now. Ok (with_stored state reply now)) → change_of schema state moment request ≡ if_accepted r change → CanPlay state.stored (Some change) → r ≡ Ok stored
    → Comes schema state moment request (record { reply = reply; change = Some change; lock = Nothing })
unfolding locks_after
stored_comes schema state moment request reply change r stored none_in none_out is changes playable made =
    comes_done schema state moment request (or_refused r >>= λ now. Ok (with_stored state reply now)) reply (record state { stored = stored }) (record { reply = reply; change = Some change; lock = Nothing })
    is (changes ∙ ap (λ x. if_accepted x change) made) playable (ap (λ x. or_refused x >>= λ now. Ok (with_stored state reply now)) made) refl refl refl tt (rw (none_in, none_out) refl)

-- one that may not
stored_refused : (schema : Schema) (state : State) (moment : ℕ) (request : Request) (reply : Reply) (change : Change) (r : Result (List StoredQuery) StoredFault) (fault : StoredFault) (refuses : PlanFault)
    → step schema state moment request ≡ settled state moment (or_refused r >>= λ now. Ok (with_stored state reply now)) → change_of schema state moment request ≡ if_accepted r change → r ≡ Err fault → IsRefusal refuses (refusal_of fault)
    → (let s : Result Plan PlanFault = Err refuses in ComesTo schema state moment request s)
stored_refused schema state moment request reply change r fault (Refused refusal) is changes refused said =
    comes_refused schema state moment request (or_refused r >>= λ now. Ok (with_stored state reply now)) refusal is (changes ∙ ap (λ x. if_accepted x change) refused)
    (ap (λ x. or_refused x >>= λ now. Ok (with_stored state reply now)) refused ∙ (let same = said in rw same refl))
stored_refused schema state moment request reply change r fault OutOfMemory is changes refused said = tt

pub creation_comes : (schema : Schema) (state : State) (moment : ℕ) (queries : List StoredQuery) → created state.stored queries ≡ Ok (state.stored ++ queries) → Comes schema state moment (CreateStored queries) (record { reply = Created; change = Some (NewQueries queries); lock = Nothing })
unfolding step change_of
creation_comes schema state moment queries made = stored_comes schema state moment (CreateStored queries) Created (NewQueries queries) (created state.stored queries) (state.stored ++ queries) refl refl refl refl made made

pub creation_refused : (schema : Schema) (state : State) (moment : ℕ) (queries : List StoredQuery) (fault : StoredFault) (refuses : PlanFault) → created state.stored queries ≡ Err fault → IsRefusal refuses (refusal_of fault)
    → (let s : Result Plan PlanFault = Err refuses in ComesTo schema state moment (CreateStored queries) s)
unfolding step change_of
creation_refused schema state moment queries fault refuses refused said = stored_refused schema state moment (CreateStored queries) Created (NewQueries queries) (created state.stored queries) fault refuses refl refl refused said

-- because of the identifier of one of the queries, as it was read
pub creation_refused_by : (schema : Schema) (state : State) (moment : ℕ) (queries read : List StoredQuery) (i : ℕ) (d : StoredQuery) (id : List ℕ) (refuses : PlanFault) → read ≡ queries → id ≡ (get_or read i d).id
    → created state.stored read ≡ Err (DuplicateId (get_or read i d).id) → IsRefusal refuses (refusal_of (DuplicateId id)) → (let s : Result Plan PlanFault = Err refuses in ComesTo schema state moment (CreateStored queries) s)
creation_refused_by schema state moment queries read i d id refuses same is known said =
    let there : created state.stored queries ≡ Err (DuplicateId id) =
    subst (λ (qs : List StoredQuery). created state.stored qs ≡ Err (DuplicateId id)) same
    (known ∙ ap (λ (x : List ℕ). let r : Result (List StoredQuery) StoredFault = Err (DuplicateId x) in r) (sym is)) in
    creation_refused schema state moment queries (DuplicateId id) refuses there said

pub drop_comes : (schema : Schema) (state : State) (moment : ℕ) (id : List ℕ) → is_there state.stored id ≡ true → Comes schema state moment (DropStored id) (record { reply = Dropped; change = Some (Gone id); lock = Nothing })
unfolding step change_of dropped
drop_comes schema state moment id there =
    stored_comes schema state moment (DropStored id) Dropped (Gone id) (if is_there state.stored id then Ok (without_query state.stored id) else Err (Unknown id)) (without_query state.stored id) refl refl refl refl (rw there refl) (rw there refl)

pub drop_refused : (schema : Schema) (state : State) (moment : ℕ) (id : List ℕ) (refuses : PlanFault) → is_there state.stored id ≡ false → IsRefusal refuses (refusal_of (Unknown id))
    → (let s : Result Plan PlanFault = Err refuses in ComesTo schema state moment (DropStored id) s)
unfolding step change_of dropped
drop_refused schema state moment id refuses there said =
    stored_refused schema state moment (DropStored id) Dropped (Gone id) (if is_there state.stored id then Ok (without_query state.stored id) else Err (Unknown id)) (Unknown id) refuses refl refl (rw there refl) said
