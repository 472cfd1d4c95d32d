-- A read does not depend on the counters and the number of the opening.
use Rattle.std.proofs.Common.{◌≡◌, ◌≢◌, ℕ, List, Result, Ok, Err, refl, sym, ap, ◌∙◌}
use Rattle.std.specs.Prelude.{IfOk, OnOk}
use Rattle.wfs_ends.specs.Read.{◌>>=◌, FailsBut}
use Rattle.feature_values.specs.declared.feature.Feature.{Feature}
use Rattle.feature_values.specs.declared.feature.Rid.{Rid}
use Rattle.feature_values.specs.declared.schema.Schema.{Schema}
use Rattle.fes_filter.specs.declared.query.Query.{Query}
use Rattle.query_core.specs.Selecting.{all_selected}
use Rattle.wfs_model.specs.declared.asked.Asked.{Asked}
use Rattle.wfs_model.specs.declared.asked.Present.{Present}
use Rattle.wfs_model.specs.declared.stored.StoredQuery.{StoredQuery}
use Rattle.wfs_model.specs.declared.request.Request.{Request}
use Rattle.wfs_model.specs.declared.request.Request.TheVariants.{Capabilities, DescribeTypes, GetFeatures, GetValues, GetLocked, Lock, Renew, Transact, ListStored, DescribeStored, CreateStored, DropStored}
use Rattle.wfs_model.specs.declared.reply.Reply.{Reply}
use Rattle.wfs_model.specs.declared.reply.Reply.TheVariants.{Refused}
use Rattle.wfs_model.specs.declared.reply.Refusal.{Refusal}
use Rattle.wfs_model.specs.declared.fault.StoredFault.{StoredFault}
use Rattle.wfs_model.specs.declared.fault.StoredFault.TheVariants.{OutOfMemory}
use Rattle.wfs_model.specs.Refusals.{refusal_of, or_refused}
use Rattle.wfs_model.specs.State.{Durable}
use Rattle.wfs_model.specs.Expand.{all_expanded}
use Rattle.wfs_model.specs.Read.{read, reply_of, collection, values_asked}
use Rattle.stored_queries.specs.Answered.{IsAnswer, kept_with, shown}
use Rattle.stored_queries.specs.Meant.{asked_selected}

same_read : (schema : Schema) (kept : Durable) (moment : ℕ) (request : Request) → read schema kept moment request ≡ read schema (kept_with kept.features kept.stored) moment request
unfolding read values_asked
same_read schema kept moment Capabilities = refl
same_read schema kept moment (DescribeTypes kinds) = refl
same_read schema kept moment (GetFeatures present asked) = refl
same_read schema kept moment (GetValues present asked property) = refl
same_read schema kept moment (GetLocked present asked take period) = refl
same_read schema kept moment (Lock asked take period) = refl
same_read schema kept moment (Renew lock period) = refl
same_read schema kept moment (Transact lock release actions) = refl
same_read schema kept moment ListStored = refl
same_read schema kept moment (DescribeStored ids) = refl
same_read schema kept moment (CreateStored queries) = refl
same_read schema kept moment (DropStored id) = refl

pub answers : (schema : Schema) (features : List Feature) (stored : List StoredQuery) (moment : ℕ) (request : Request) (reply : Reply) → reply ≡ read schema (kept_with features stored) moment request → IsAnswer schema features stored moment request reply
answers schema features stored moment request reply is = record {
  is = λ kept has_features has_stored. is ∙ rw (← has_features, ← has_stored) (sym (same_read schema kept moment request));
}

-- ---- features that are asked for, by what is selected of them

shown_of : (features : List Feature) (moment : ℕ) (present : Present) (asked : List Asked) (expansion : Result (List Query) StoredFault) → reply_of (or_refused (expansion >>= λ queries. Ok (all_selected features queries)) >>= λ ids. Ok (shown features moment present asked ids)) ≡ reply_of (or_refused expansion >>= λ queries. Ok (collection features moment present asked queries))
unfolding collection
shown_of features moment present asked (Ok queries) = refl
shown_of features moment present asked (Err fault) = refl

shown_read : (schema : Schema) (features : List Feature) (stored : List StoredQuery) (moment : ℕ) (present : Present) (asked : List Asked) → reply_of (or_refused (asked_selected schema stored features asked) >>= λ ids. Ok (shown features moment present asked ids)) ≡ read schema (kept_with features stored) moment (GetFeatures present asked)
unfolding read asked_selected
shown_read schema features stored moment present asked = shown_of features moment present asked (all_expanded schema stored asked)

pub shown_is : {E : Type 0} (r : Result Reply E) (schema : Schema) (features : List Feature) (stored : List StoredQuery) (moment : ℕ) (present : Present) (asked : List Asked) (ids : List Rid) → asked_selected schema stored features asked ≡ Ok ids → IfOk r (λ reply. reply ≡ shown features moment present asked ids) → IfOk r (λ reply. reply ≡ read schema (kept_with features stored) moment (GetFeatures present asked))
shown_is (Ok reply) schema features stored moment present asked ids selected is =
    is ∙ ap (λ selection. reply_of (or_refused selection >>= λ ids. Ok (shown features moment present asked ids))) (sym selected) ∙ shown_read schema features stored moment present asked
shown_is (Err e) schema features stored moment present asked ids selected is = is

pub refused_read : {E : Type 0} (r : Result Reply E) (fault : StoredFault) (schema : Schema) (features : List Feature) (stored : List StoredQuery) (moment : ℕ) (present : Present) (asked : List Asked) → IfOk r (λ reply. reply ≡ Refused (refusal_of fault)) → OnOk r (fault ≢ OutOfMemory) → FailsBut OutOfMemory fault (asked_selected schema stored features asked) → IfOk r (λ reply. reply ≡ read schema (kept_with features stored) moment (GetFeatures present asked))
refused_read (Ok reply) fault schema features stored moment present asked is other fails =
    is ∙ ap (λ selection. reply_of (or_refused selection >>= λ ids. Ok (shown features moment present asked ids))) (sym (fails other)) ∙ shown_read schema features stored moment present asked
refused_read (Err e) fault schema features stored moment present asked is other fails = is

-- a fault of an expansion, where it is refused
pub refused_is : {E Y : Type 0} (r : Result Reply E) (fault : StoredFault) (expansion : Result Y StoredFault) (next : Y → Result Reply Refusal) → IfOk r (λ reply. reply ≡ Refused (refusal_of fault)) → OnOk r (fault ≢ OutOfMemory) → FailsBut OutOfMemory fault expansion → IfOk r (λ reply. reply ≡ reply_of (or_refused expansion >>= next))
refused_is (Ok reply) fault expansion next is other fails = is ∙ rw (fails other) refl
refused_is (Err e) fault expansion next is other fails = is
