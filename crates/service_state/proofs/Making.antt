-- A plan that passes no limit is prepared: its change may be played, and what its stored queries ask is such as the schema allows.
use Rattle.std.proofs.Common.{◌≡◌, ℕ, ◌≤◌, Bool, true, false, List, length, All, Option, Some, None, Result, Ok, Err, refl, sym, ap, ◌∙◌, subst}
use Rattle.std.specs.Option.{IfSome}
use Rattle.std.specs.Prelude.{◌==◌, if◌then◌else◌}
use Rattle.feature_values.specs.declared.schema.Schema.{Schema}
use Rattle.feature_versions.specs.Reserved.{IsReserved}
use Rattle.request_plans.specs.declared.plan.Plan.{Plan}
use Rattle.request_plans.specs.Carried.{HasRoom}
use Rattle.request_plans.specs.Plan.{IsPlan, carried}
use Rattle.service_state.specs.Passed.{passed_between}
use Rattle.service_state.specs.Running.{Running, IsPrepared}
use Rattle.service_state.proofs.Counters.{all_within}
use Rattle.service_state.proofs.Judging.{ids_stay}
use Rattle.wfs_model.specs.declared.change.Part.{Part}
use Rattle.wfs_model.specs.declared.change.Change.{Change}
use Rattle.wfs_model.specs.declared.change.Change.TheVariants.{Rows, Created, Dropped}
use Rattle.wfs_model.specs.declared.limits.Limits.{Limits}
use Rattle.wfs_model.specs.declared.reply.Refusal.{Refusal}
use Rattle.wfs_model.specs.declared.request.Request.{Request}
use Rattle.wfs_model.specs.declared.request.Request.TheVariants.{Capabilities, DescribeTypes, GetFeatures, GetValues, GetLocked, Lock, Renew, Transact, ListStored, DescribeStored, CreateStored, DropStored}
use Rattle.wfs_model.specs.declared.stored.StoredQuery.{StoredQuery}
use Rattle.wfs_model.specs.Kept.{IsKept}
use Rattle.wfs_model.specs.OfSchema.{IsOfSchema, IsStoredOf}
use Rattle.wfs_model.specs.Plans.{Planning}
use Rattle.wfs_model.specs.Playable.{most_number, IsAskedOf, AreQueriesOf, is_playable}
use Rattle.wfs_model.specs.Played.{change_of, rows_if, if_accepted}
use Rattle.wfs_model.specs.State.{State, durable}
use Rattle.wfs_model.specs.Step.{Done, plan_of, step}
use Rattle.wfs_model.specs.Stored.{created, dropped}
use Rattle.wfs_model.proofs.Keeping.{step_keeps}
use Rattle.wfs_model.proofs.Making.{made_playable}

-- ---- what stored queries ask

all_asked : (schema : Schema) (queries : List StoredQuery) → All (IsStoredOf schema) queries → All (IsAskedOf schema) queries
all_asked schema queries all k d lt = (all k d lt).queries

accepted_asks : {X E : Type 0} (schema : Schema) (r : Result X E) (made change : Change) → AreQueriesOf schema made → if_accepted r made ≡ Some change → AreQueriesOf schema change
accepted_asks schema (Ok x) made change asks is = let same : made ≡ change = cc in subst (AreQueriesOf schema) same asks
accepted_asks schema (Err fault) made change asks is = absurd cc

rows_at : (schema : Schema) (parts : List Part) (b : Bool) (change : Change) → (if b then None else Some (Rows parts)) ≡ Some change → AreQueriesOf schema change
rows_at schema parts true change is = absurd cc
rows_at schema parts false change is = let same : Rows parts ≡ change = cc in subst (AreQueriesOf schema) same tt

rows_ask : (schema : Schema) (r : Result Planning Refusal) (change : Change) → rows_if r ≡ Some change → AreQueriesOf schema change
rows_ask schema (Err refusal) change is = absurd cc
rows_ask schema (Ok plan) change is = rows_at schema plan.parts (length plan.parts == 0) change is

-- what the stored queries of a change that is made ask is such as the schema allows
made_asks : (schema : Schema) (state : State) (moment : ℕ) (request : Request) (change : Change) → IsOfSchema schema request → change_of schema state moment request ≡ Some change → AreQueriesOf schema change
unfolding change_of
made_asks schema state moment (Transact lock release actions) change of makes = rows_ask schema (plan_of schema state moment lock actions) change makes
made_asks schema state moment (CreateStored queries) change of makes = accepted_asks schema (created state.stored queries) (Created queries) change (all_asked schema queries of.stored) makes
made_asks schema state moment (DropStored id) change of makes = accepted_asks schema (dropped state.stored id) (Dropped id) change tt makes
made_asks schema state moment Capabilities change of makes = absurd cc
made_asks schema state moment (DescribeTypes kinds) change of makes = absurd cc
made_asks schema state moment (GetFeatures present asked) change of makes = absurd cc
made_asks schema state moment (GetValues present asked property) change of makes = absurd cc
made_asks schema state moment (GetLocked present asked take period) change of makes = absurd cc
made_asks schema state moment (Lock asked take period) change of makes = absurd cc
made_asks schema state moment (Renew lock period) change of makes = absurd cc
made_asks schema state moment ListStored change of makes = absurd cc
made_asks schema state moment (DescribeStored ids) change of makes = absurd cc

-- ---- plans

if_some : {X : Type 0} (P : X → Type 0) (o : Option X) → ((x : X) → o ≡ Some x → P x) → IfSome o P
if_some P None h = tt
if_some P (Some x) h = h x refl

-- what a plan leaves is what the step leaves
pub left_by : (schema : Schema) (state : State) (moment : ℕ) (request : Request) (plan : Plan) → IsPlan schema state moment request plan → (step schema state moment request).1 ≡ carried plan state moment
left_by schema state moment request plan is = ap (λ (done : Done). done.1) (sym is.step)

-- what is known of a state in which a request of the schema is planned
pub record IsGood (limits : Limits) (schema : Schema) (state : State) (moment : ℕ) (request : Request) (plan : Plan) : Type 0 where
  pub planned : IsPlan schema state moment request plan
  pub fitting : IsOfSchema schema request
  pub well : IsKept schema (durable state)
  pub numbers : All (λ n. n ≤ most_number) state.counters
  pub ids : limits.ids ≤ most_number
  pub none : passed_between limits moment state (step schema state moment request).1 ≡ None

module _ (limits : Limits) (schema : Schema) (state : State) (moment : ℕ) (request : Request) (plan : Plan) (good : IsGood limits schema state moment request plan) where
  left_well : IsKept schema (durable (step schema state moment request).1)
  left_well = step_keeps schema state moment request good.well good.fitting

  -- no number that the step leaves is above the greatest one
  pub numbers_left : All (λ n. n ≤ most_number) (step schema state moment request).1.counters
  numbers_left =
      all_within limits.ids state.counters (step schema state moment request).1.counters (left_well.counters ∙ sym good.well.counters) good.ids good.numbers
      (ids_stay limits moment state (step schema state moment request).1 good.none)

  may_play : (change : Change) → plan.change ≡ Some change → is_playable schema (durable state) change ≡ true
  may_play change is = made_playable schema state moment request change good.well good.fitting (sym good.planned.change ∙ is) numbers_left

  asks : (change : Change) → plan.change ≡ Some change → AreQueriesOf schema change
  asks change is = made_asks schema state moment request change good.fitting (sym good.planned.change ∙ is)

  pub is_prepared : (new : Running) → new.schema ≡ schema → new.state ≡ state → IfSome plan.change (λ change. IsReserved change new.room) → HasRoom plan.lock new.table → IsPrepared plan moment new
  is_prepared new same stays reserved room = record {
    change = rw stays good.planned.playable;
    playable = rw (same, stays) (if_some (λ (change : Change). is_playable schema (durable state) change ≡ true) plan.change may_play);
    queries = rw same (if_some (AreQueriesOf schema) plan.change asks);
    reserved = reserved;
    lock = rw stays good.planned.lock;
    room = room;
  }
