-- What a plan comes to: carried out, it leaves the state that the step leaves, and what is to be kept of it is its change.
use Rattle.std.specs.Prelude.{◌≡◌, ℕ, ◌+◌, ⊤, List, ◌++◌, length, Option, Some, None, Ok}
use Rattle.std.specs.Option.{option_to_list}
use Rattle.feature_values.specs.declared.feature.Feature.{Feature}
use Rattle.feature_values.specs.declared.schema.Schema.{Schema}
use Rattle.wfs_model.specs.declared.change.Change.{Change}
use Rattle.wfs_model.specs.declared.change.Change.TheVariants.{Rows, Created, Dropped}
use Rattle.wfs_model.specs.declared.stored.StoredQuery.{StoredQuery}
use Rattle.wfs_model.specs.Stored.{created, dropped, without_query}
use Rattle.wfs_model.specs.declared.reply.Reply.{Reply}
use Rattle.wfs_model.specs.declared.reply.Reply.TheVariants.{Transacted}
use Rattle.wfs_model.specs.declared.request.Request.{Request}
use Rattle.wfs_model.specs.Played.{change_of, played}
use Rattle.wfs_model.specs.State.{State, durable}
use Rattle.wfs_model.specs.Step.{step}
use Rattle.request_plans.specs.declared.basis.Basis.{Basis}
use Rattle.request_plans.specs.declared.plan.Plan.{Plan}
use Rattle.request_plans.specs.Carried.{locks_after, given_after, IsDoable}

-- a state with these features and what a request is judged by, whatever its last moment is
abbrev pub state_in : List Feature → Basis → ℕ → State
state_in features basis last = record {
  features = features;
  counters = basis.counters.now;
  stored = basis.stored.now;
  opening = basis.locks.now.opening;
  locks = basis.locks.now.locks;
  given = basis.locks.now.given;
  last = last;
}

-- The state that a plan leaves, carried out at a moment: its change is played on what outlives the process, and its work is done on the locks.
abbrev pub carried : Plan → State → ℕ → State
carried plan state moment =
    let kept = played (durable state) (option_to_list plan.change) in
    record {
      features = kept.features;
      counters = kept.counters;
      stored = kept.stored;
      opening = kept.opening;
      locks = locks_after plan.lock state.given moment state.locks;
      given = given_after plan.lock state.given;
      last = moment;
    }

-- stored queries that a change makes are new, and the one that it drops is there
abbrev pub CanPlay : List StoredQuery → Option Change → Type 0
CanPlay stored None = ⊤
CanPlay stored (Some (Rows parts)) = ⊤
CanPlay stored (Some (Created queries)) = created stored queries ≡ Ok (stored ++ queries)
CanPlay stored (Some (Dropped id)) = dropped stored id ≡ Ok (without_query stored id)
CanPlay stored (Some change) = ⊥

-- how many features a reply tells as inserted, and as deleted
abbrev pub inserted_in : Reply → ℕ
inserted_in (Transacted deleted inserted updated replaced) = length inserted
inserted_in reply = 0

abbrev pub deleted_in : Reply → ℕ
deleted_in (Transacted deleted inserted updated replaced) = deleted
deleted_in reply = 0

-- A plan of a request in a state at a moment.
pub record IsPlan (schema : Schema) (state : State) (moment : ℕ) (request : Request) (plan : Plan) : Type 0 where
  -- the reply, and what carrying it out leaves, are those of the step
  pub step : (plan.reply, carried plan state moment) ≡ step schema state moment request
  -- its change is the one that the request makes
  pub change : plan.change ≡ change_of schema state moment request
  -- it can be played
  pub playable : CanPlay state.stored plan.change
  -- its work on locks can be done
  pub lock : IsDoable plan.lock state.given moment state.locks
  -- as many features stand then as stood, with those that were inserted and without those that were deleted
  pub features : length (carried plan state moment).features + deleted_in plan.reply ≡ length state.features + inserted_in plan.reply
