-- The change of a plan may be recorded.
use Rattle.std.proofs.Common.{◌≡◌, ℕ, Bool, true, false, List, length, All, Option, Some, None, Result, Ok, Err, refl, sym, ap, subst}
use Rattle.std.specs.Prelude.{◌==◌, if◌then◌else◌}
use Rattle.std.specs.Option.{IfSome, option_to_list}
use Rattle.feature_values.specs.declared.schema.Schema.{Schema}
use Rattle.journal_replay.specs.Replayed.{may_stand}
use Rattle.journal_replay.specs.Written.{HasKeptTexts}
use Rattle.query_docs.specs.Reading.{IsKeptText}
use Rattle.request_plans.specs.declared.plan.Plan.{Plan}
use Rattle.request_plans.specs.Plan.{CanPlay, IsPlan}
use Rattle.wfs_model.specs.declared.change.Change.{Change}
use Rattle.wfs_model.specs.declared.change.Change.TheVariants.{Opening, Rows, Created, Dropped, Base}
use Rattle.wfs_model.specs.declared.change.Part.{Part}
use Rattle.wfs_model.specs.declared.fault.StoredFault.{StoredFault}
use Rattle.wfs_model.specs.declared.reply.Refusal.{Refusal}
use Rattle.wfs_model.specs.declared.reply.Reply.{Reply}
use Rattle.wfs_model.specs.declared.request.Request.{Request}
use Rattle.wfs_model.specs.declared.request.Request.TheVariants.{Capabilities, DescribeTypes, GetFeatures, GetValues, GetLocked, Lock, Renew, Transact, ListStored, DescribeStored, CreateStored, DropStored}
use Rattle.wfs_model.specs.declared.stored.StoredQuery.{StoredQuery}
use Rattle.wfs_model.specs.OfSchema.{stored_in}
use Rattle.wfs_model.specs.Played.{change_of, if_accepted, played, rows_if, rows_of}
use Rattle.wfs_model.specs.Plans.{Planning}
use Rattle.wfs_model.specs.State.{State, durable}
use Rattle.wfs_model.specs.Step.{plan_of, step}
use Rattle.wfs_model.specs.Stored.{created, dropped}
use Rattle.wfs_model.specs.Playable.{is_playable}
use Rattle.wfs_store.specs.Ready.{IsSpelledFor, IsWritable}

-- ---- texts of stored queries

rows_keep : (schema : Schema) (parts : List Part) (change : Change) → rows_of parts ≡ Some change → HasKeptTexts schema change
rows_keep schema parts change is = by_test (length parts == 0) is
  where
    by_test : (b : Bool) → (if b then None else Some (Rows parts)) ≡ Some change → HasKeptTexts schema change
    by_test true is = absurd cc
    by_test false is = let same : Rows parts ≡ change = cc in subst (HasKeptTexts schema) same tt

plan_keeps : (schema : Schema) (r : Result Planning Refusal) (change : Change) → rows_if r ≡ Some change → HasKeptTexts schema change
plan_keeps schema (Err refusal) change is = absurd cc
plan_keeps schema (Ok plan) change is = rows_keep schema plan.parts change is

accepted_keeps : (schema : Schema) (r : Result (List StoredQuery) StoredFault) (made change : Change) → HasKeptTexts schema made → if_accepted r made ≡ Some change → HasKeptTexts schema change
accepted_keeps schema (Err fault) made change kept is = absurd cc
accepted_keeps schema (Ok stored) made change kept is = let same : made ≡ change = cc in subst (HasKeptTexts schema) same kept

none_keeps : (schema : Schema) (change : Change) → (let none : Option Change = None in none) ≡ Some change → HasKeptTexts schema change
none_keeps schema change is = absurd cc

-- the stored queries that a change makes are those of its request
pub texts_kept : (schema : Schema) (state : State) (moment : ℕ) (request : Request) (change : Change)
    → All (IsKeptText schema) (stored_in request) → change_of schema state moment request ≡ Some change → HasKeptTexts schema change
unfolding change_of
texts_kept schema state moment Capabilities change texts is = none_keeps schema change is
texts_kept schema state moment (DescribeTypes kinds) change texts is = none_keeps schema change is
texts_kept schema state moment (GetFeatures present asked) change texts is = none_keeps schema change is
texts_kept schema state moment (GetValues present asked property) change texts is = none_keeps schema change is
texts_kept schema state moment (GetLocked present asked take period) change texts is = none_keeps schema change is
texts_kept schema state moment (Lock asked take period) change texts is = none_keeps schema change is
texts_kept schema state moment (Renew lock period) change texts is = none_keeps schema change is
texts_kept schema state moment (Transact lock release actions) change texts is = plan_keeps schema (plan_of schema state moment lock actions) change is
texts_kept schema state moment ListStored change texts is = none_keeps schema change is
texts_kept schema state moment (DescribeStored ids) change texts is = none_keeps schema change is
texts_kept schema state moment (CreateStored queries) change texts is = accepted_keeps schema (created state.stored queries) (Created queries) change texts is
texts_kept schema state moment (DropStored id) change texts is = accepted_keeps schema (dropped state.stored id) (Dropped id) change tt is

-- ---- plans

-- no change of a plan is an opening, or the beginning of a checkpoint
pub can_stand : (stored : List StoredQuery) (change : Change) → CanPlay stored (Some change) → may_stand false change ≡ true
can_stand stored (Opening opening) can = absurd can
can_stand stored (Rows parts) can = refl
can_stand stored (Created queries) can = refl
can_stand stored (Dropped id) can = refl
can_stand stored (Base opening counters) can = absurd can

-- what outlives the process after a step is what its change leaves
pub kept_after : (schema : Schema) (state : State) (moment : ℕ) (request : Request) (plan : Plan) → IsPlan schema state moment request plan
    → durable (step schema state moment request).1 ≡ played (durable state) (option_to_list plan.change)
kept_after schema state moment request plan is = ap (λ (d : Reply × State). durable d.1) (sym is.step)

-- the change of a plan that is prepared, and whose body is spelled, may be recorded
pub writable_if : (schema : Schema) (state : State) (moment : ℕ) (request : Request) (plan : Plan) (side limit : ℕ) (body : List ℕ)
    → IsPlan schema state moment request plan → CanPlay state.stored plan.change → IfSome plan.change (λ change. is_playable schema (durable state) change ≡ true)
    → All (IsKeptText schema) (stored_in request) → IfSome plan.change (IsSpelledFor schema side limit body)
    → IfSome plan.change (IsWritable schema (durable state) side limit body)
writable_if schema state moment request plan side limit body is can playable texts spelled = by_case plan.change is.change can playable spelled
  where
    by_case : (made : Option Change) → made ≡ change_of schema state moment request → CanPlay state.stored made → IfSome made (λ change. is_playable schema (durable state) change ≡ true)
        → IfSome made (IsSpelledFor schema side limit body) → IfSome made (IsWritable schema (durable state) side limit body)
    by_case None made can playable spelled = tt
    by_case (Some change) made can playable spelled = record {
      may = record {
        is = spelled.body_is;
        stands = can_stand state.stored change can;
        playable = playable;
        texts = texts_kept schema state moment request change texts (sym made);
        read_back = spelled.read_back;
      };
      fits = spelled.fits;
    }
