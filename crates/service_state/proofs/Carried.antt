-- A prepared plan, carried out: what is kept stays well, and is what the plan leaves.
use Rattle.std.proofs.Common.{◌≡◌, ℕ, ◌≤◌, true, All, Option, Some, None, refl, sym, ap, ◌∙◌}
use Rattle.std.specs.Option.{IfSome, option_to_list}
use Rattle.feature_values.specs.declared.schema.Schema.{Schema}
use Rattle.lock_table.specs.Lock.{Locks}
use Rattle.request_plans.specs.declared.plan.LockWork.{LockWork}
use Rattle.request_plans.specs.declared.plan.Plan.{Plan}
use Rattle.request_plans.specs.Carried.{locks_after, given_after}
use Rattle.request_plans.specs.Plan.{CanPlay, carried}
use Rattle.service_state.specs.Running.{IsState, state_of}
use Rattle.service_state.proofs.Judging.{numbered_after}
use Rattle.service_state.proofs.Playing.{played_opening, playing_within}
use Rattle.wfs_model.specs.declared.change.Change.{Change}
use Rattle.wfs_model.specs.Kept.{IsKept}
use Rattle.wfs_model.specs.Playable.{most_number, AreQueriesOf, is_playable}
use Rattle.wfs_model.specs.Played.{played}
use Rattle.wfs_model.specs.State.{Durable, last_moment}
use Rattle.wfs_model.proofs.Playable.{playing_keeps}

-- ---- what outlives the process

still_well : (schema : Schema) (kept : Durable) (change : Option Change) → IsKept schema kept → IfSome change (λ change. is_playable schema kept change ≡ true) → IfSome change (AreQueriesOf schema) → IsKept schema (played kept (option_to_list change))
still_well schema kept None well may asks = well
still_well schema kept (Some change) well may asks = playing_keeps schema kept change well asks may

still_within : (schema : Schema) (kept : Durable) (change : Option Change) → All (λ n. n ≤ most_number) kept.counters → IfSome change (λ change. is_playable schema kept change ≡ true) → All (λ n. n ≤ most_number) (played kept (option_to_list change)).counters
still_within schema kept None are may = are
still_within schema kept (Some change) are may = playing_within schema kept change may are

-- ---- the whole state

-- what is known when a change has been played and work has been done
pub record IsDone (kept new : Durable) (given moment : ℕ) (table done : Locks) (change : Option Change) (work : LockWork) : Type 0 where
  pub left : new ≡ played kept (option_to_list change)
  pub locks : done.locks ≡ locks_after work given moment table.locks
  pub opening : done.opening ≡ table.opening
  pub grants : done.given ≡ given_after work given
  pub last : done.last ≤ moment

pub state_after : (schema : Schema) (kept new : Durable) (given last moment : ℕ) (table done : Locks) (change : Option Change) (work : LockWork)
    → IsState schema kept given last table → IsDone kept new given moment table done change work
    → CanPlay kept.stored change → IfSome change (λ change. is_playable schema kept change ≡ true) → IfSome change (AreQueriesOf schema) → moment ≤ last_moment
    → IsState schema new (given_after work given) moment done
state_after schema kept new given last moment table done change work was is can may asks latest = record {
  well = rw is.left (still_well schema kept change was.well may asks);
  numbers = rw is.left (still_within schema kept change was.numbers may);
  opening = is.opening ∙ was.opening ∙ sym (ap (λ (d : Durable). d.opening) is.left ∙ played_opening kept change can);
  given = is.grants;
  numbered = rw (is.grants, is.locks) (numbered_after work given moment table.locks (rw was.given at was.numbered));
  later = is.last;
  last = latest;
}

pub state_is : (kept new : Durable) (given last moment : ℕ) (table done : Locks) (plan : Plan) → IsDone kept new given moment table done plan.change plan.lock
    → state_of new (given_after plan.lock given) moment done ≡ carried plan (state_of kept given last table) moment
state_is kept new given last moment table done plan is = rw (is.left, is.locks) refl
