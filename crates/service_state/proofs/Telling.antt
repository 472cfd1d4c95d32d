-- What outlives the process, by its parts; and the first limit that a plan would pass, by what is told of the plan.
use Rattle.std.proofs.Common.{◌≡◌, ℕ, ◌+◌, List, length, Option, refl, sym, ap, ◌∙◌, subst}
use Rattle.std.specs.Option.{option_or}
use Rattle.feature_values.specs.declared.schema.Schema.{Schema}
use Rattle.lock_table.specs.Held.{live, AreNumbered}
use Rattle.lock_table.specs.Lock.{Lock, Locks}
use Rattle.request_plans.specs.declared.plan.Plan.{Plan}
use Rattle.request_plans.specs.Plan.{IsPlan, carried, inserted_in, deleted_in}
use Rattle.service_state.specs.Passed.{passed_between, counters_after, made_by, AreLocksPassed, FeaturesPassed}
use Rattle.service_state.specs.Running.{state_of}
use Rattle.service_state.proofs.Judging.{locks_now, passed_is}
use Rattle.service_state.proofs.Making.{left_by}
use Rattle.service_state.proofs.Playing.{played_counters, played_stored}
use Rattle.wfs_model.specs.declared.limits.FullAt.{FullAt}
use Rattle.wfs_model.specs.declared.limits.LimitName.TheVariants.{Features, Ids, Locks as LiveLocks, Stored}
use Rattle.wfs_model.specs.declared.limits.Limits.{Limits}
use Rattle.wfs_model.specs.declared.request.Request.{Request}
use Rattle.wfs_model.specs.declared.stored.StoredQuery.{StoredQuery}
use Rattle.wfs_model.specs.Full.{at_limit, passes, some_passes}
use Rattle.wfs_model.specs.State.{Durable, State}
use Rattle.wfs_model.specs.Step.{step}

pub durable_is : (kept : Durable) (counters : List ℕ) (stored : List StoredQuery) (opening : ℕ) → kept.counters ≡ counters → kept.stored ≡ stored → kept.opening ≡ opening → kept ≡ record { features = kept.features; counters = counters; stored = stored; opening = opening }
durable_is kept counters stored opening a b c = rw (← a, ← b, ← c) refl

-- what is told of a plan in a state
pub record IsTold (limits : Limits) (kept : Durable) (moment : ℕ) (table : Locks) (plan : Plan) (features ids locks stored : Option ℕ) : Type 0 where
  pub features_told : FeaturesPassed limits.features (length kept.features) plan.reply features
  pub ids_told : ids ≡ some_passes limits.ids kept.counters (counters_after kept.counters plan.change)
  pub locks_told : AreLocksPassed plan.lock limits.locks moment table.locks locks
  pub stored_told : stored ≡ passes limits.stored (length kept.stored) (length kept.stored + made_by plan.change)

pub first_told : (limits : Limits) (schema : Schema) (kept : Durable) (given last moment : ℕ) (table : Locks) (plan : Plan) (features ids locks stored : Option ℕ) → AreNumbered given table.locks
    → IsTold limits kept moment table plan features ids locks stored → (request : Request) → IsPlan schema (state_of kept given last table) moment request plan
    → option_or (option_or (option_or (at_limit Features features) (at_limit Ids ids)) (at_limit LiveLocks locks)) (at_limit Stored stored)
    ≡ passed_between limits moment (state_of kept given last table) (step schema (state_of kept given last table) moment request).1
first_told limits schema kept given last moment table plan features ids locks stored are told request is =
    let state : State = state_of kept given last table in
    let after : State = (step schema state moment request).1 in
    let left : after ≡ carried plan state moment = left_by schema state moment request plan is in
    passed_is limits moment state after features ids locks stored
    (told.features_told (length after.features) (subst (λ (s : State). length s.features + deleted_in plan.reply ≡ length kept.features + inserted_in plan.reply) (sym left) is.features))
    (told.ids_told ∙ ap (λ (nows : List ℕ). some_passes limits.ids kept.counters nows) (sym (ap (λ (s : State). s.counters) left ∙ played_counters kept plan.change is.playable)))
    (told.locks_told ∙ sym (locks_now plan.lock limits.locks given moment table.locks are is.lock) ∙ ap (λ (ls : List Lock). passes limits.locks (length (live moment table.locks)) (length (live moment ls))) (sym (ap (λ (s : State). s.locks) left)))
    (told.stored_told ∙ sym (played_stored limits.stored kept plan.change is.playable) ∙ ap (λ (queries : List StoredQuery). passes limits.stored (length kept.stored) (length queries)) (sym (ap (λ (s : State). s.stored) left)))

pub chained : (a b c d x y z : Option FullAt) (f i l s : Option ℕ) → a ≡ at_limit Features f → b ≡ at_limit Ids i → x ≡ option_or a b → c ≡ at_limit LiveLocks l → y ≡ option_or x c → d ≡ at_limit Stored s → z ≡ option_or y d
    → z ≡ option_or (option_or (option_or (at_limit Features f) (at_limit Ids i)) (at_limit LiveLocks l)) (at_limit Stored s)
chained a b c d x y z f i l s is_a is_b is_x is_c is_y is_d is_z = rw (is_z, is_y, is_x, is_a, is_b, is_c, is_d) refl
