-- What steps that change what outlives the process come to.
use Rattle.std.specs.Prelude.{ℕ, List, Result, Ok}
use Rattle.wfs_ends.specs.Read.{◌>>=◌}
use Rattle.feature_values.specs.declared.schema.Schema.{Schema}
use Rattle.lock_table.specs.declared.words.Release.{Release}
use Rattle.lock_table.specs.declared.words.Release.TheVariants.{Whole}
use Rattle.transaction_core.specs.Plan.{lock_in}
use Rattle.wfs_model.specs.declared.stored.StoredQuery.{StoredQuery}
use Rattle.wfs_model.specs.declared.reply.Refusal.{Refusal}
use Rattle.wfs_model.specs.declared.reply.Reply.TheVariants.{Created, Dropped}
use Rattle.wfs_model.specs.declared.request.Request.{Request}
use Rattle.wfs_model.specs.declared.request.Request.TheVariants.{Transact}
use Rattle.wfs_model.specs.OfSchema.{actions_in}
use Rattle.wfs_model.specs.Refusals.{or_refused}
use Rattle.wfs_model.specs.State.{State}
use Rattle.wfs_model.specs.Step.{Done, plan_of, carried_out, with_stored}
use Rattle.wfs_model.specs.Stored.{created, dropped}

-- what the lock of a transaction gives up
abbrev pub release_in : Request → Release
release_in (Transact lock release actions) = release
release_in request = Whole

-- the reply and the state of a transaction, or why it is refused
abbrev pub carried : Schema → State → ℕ → Request → Result Done Refusal
carried schema state moment request =
    plan_of schema state moment (lock_in request) (actions_in request) >>= λ plan.
    Ok (carried_out state moment (lock_in request) (release_in request) plan)

-- the reply and the state where stored queries are made, or why the request is refused
abbrev pub made : State → List StoredQuery → Result Done Refusal
made state queries = or_refused (created state.stored queries) >>= λ stored. Ok (with_stored state Created stored)

-- the same where one is dropped
abbrev pub unmade : State → List ℕ → Result Done Refusal
unmade state id = or_refused (dropped state.stored id) >>= λ stored. Ok (with_stored state Dropped stored)
