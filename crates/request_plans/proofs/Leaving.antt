-- A plan that has what the step of a request comes to leaves the state of the step.
use Rattle.std.proofs.Common.{◌≡◌, ℕ, ◌+◌, List, length, Option, None, Result, Ok, Err, refl, sym, ap, ◌∙◌}
use Rattle.std.specs.Option.{option_to_list}
use Rattle.wfs_ends.specs.Read.{◌>>=◌}
use Rattle.feature_values.specs.declared.schema.Schema.{Schema}
use Rattle.lock_table.specs.Lock.{Lock}
use Rattle.wfs_model.specs.declared.change.Change.{Change}
use Rattle.wfs_model.specs.declared.reply.Refusal.{Refusal}
use Rattle.wfs_model.specs.declared.reply.Reply.{Reply}
use Rattle.wfs_model.specs.declared.request.Request.{Request}
use Rattle.wfs_model.specs.Changing.{IsChange}
use Rattle.wfs_model.specs.Kept.{IsKept}
use Rattle.wfs_model.specs.Played.{change_of, played}
use Rattle.wfs_model.specs.State.{State, Durable, durable}
use Rattle.wfs_model.specs.Step.{Done, settled, step}
use Rattle.wfs_model.proofs.Refusing.{step_moment}
use Rattle.wfs_model.proofs.Stepping.{Follows, step_follows, sound_kept}
use Rattle.transaction_core.specs.declared.fault.PlanFault.{PlanFault}
use Rattle.transaction_core.specs.declared.fault.PlanFault.TheVariants.{Refused, OutOfMemory}
use Rattle.transaction_core.specs.Plan.{Answers}
use Rattle.request_plans.specs.declared.plan.Plan.{Plan}
use Rattle.request_plans.specs.Carried.{locks_after, given_after, IsDoable}
use Rattle.request_plans.specs.Coming.{refused_plan, Comes, ComesTo}
use Rattle.request_plans.specs.Plan.{carried, CanPlay, inserted_in, deleted_in, IsPlan}

-- ---- the whole state

same_state : (now : State) (kept : Durable) (locks : List Lock) (given last : ℕ)
    → durable now ≡ kept → now.locks ≡ locks → now.given ≡ given → now.last ≡ last
    → record { features = kept.features; counters = kept.counters; stored = kept.stored; opening = kept.opening; locks = locks; given = given; last = last } ≡ now
same_state now kept locks given last a b c d = rw (sym a, sym b, sym c, sym d) refl

both : (done : Done) (reply : Reply) (state : State) → reply ≡ done.0 → state ≡ done.1 → (reply, state) ≡ done
both done reply state a b = rw (a, b) refl

pub is_plan : (schema : Schema) (state : State) (moment : ℕ) (request : Request) (plan : Plan) → IsChange request → IsKept schema (durable state) → Comes schema state moment request plan → IsPlan schema state moment request plan
is_plan schema state moment request plan change kept comes =
    let after : State = (step schema state moment request).1 in
    let follows : Follows (durable state) (durable after) (change_of schema state moment request) = step_follows schema state moment request (sound_kept schema (durable state) kept) in
    let left : durable after ≡ played (durable state) (option_to_list plan.change) = follows.is ∙ ap (λ (c : Option Change). played (durable state) (option_to_list c)) (sym comes.change) in
    let its : carried plan state moment ≡ after =
    same_state after (played (durable state) (option_to_list plan.change)) _ _ _ left (sym comes.locks) (sym comes.given) (step_moment schema state moment request change) in
    record {
      step = both (step schema state moment request) plan.reply (carried plan state moment) comes.reply its;
      change = comes.change;
      playable = comes.playable;
      lock = comes.lock;
      features = ap (λ (s : State). length s.features + deleted_in plan.reply) its ∙ comes.features;
    }

-- ---- requests that are carried out

-- what was done of a request that changes nothing of what outlives the process
pub comes_done : (schema : Schema) (state : State) (moment : ℕ) (request : Request) (said : Result Done Refusal) (reply : Reply) (left : State) (plan : Plan)
    → step schema state moment request ≡ settled state moment said → change_of schema state moment request ≡ plan.change → CanPlay state.stored plan.change → said ≡ Ok (reply, left) → plan.reply ≡ reply
    → locks_after plan.lock state.given moment state.locks ≡ left.locks → given_after plan.lock state.given ≡ left.given → IsDoable plan.lock state.given moment state.locks
    → length left.features + deleted_in plan.reply ≡ length state.features + inserted_in plan.reply → Comes schema state moment request plan
comes_done schema state moment request said reply left plan is change playable done same locks given doable features =
    let whole : step schema state moment request ≡ (reply, record left { last = moment }) = is ∙ ap (settled state moment) done in
    record {
      reply = same ∙ ap (λ (d : Done). d.0) (sym whole);
      change = sym change;
      playable = playable;
      locks = locks ∙ ap (λ (d : Done). d.1.locks) (sym whole);
      given = given ∙ ap (λ (d : Done). d.1.given) (sym whole);
      lock = doable;
      features = ap (λ (d : Done). length d.1.features + deleted_in plan.reply) whole ∙ features;
    }

-- ---- requests that are refused

pub comes_refused : (schema : Schema) (state : State) (moment : ℕ) (request : Request) (said : Result Done Refusal) (refusal : Refusal)
    → step schema state moment request ≡ settled state moment said → change_of schema state moment request ≡ None → said ≡ Err refusal → Comes schema state moment request (refused_plan refusal)
unfolding locks_after
comes_refused schema state moment request said refusal is change refused =
    let whole : step schema state moment request ≡ settled state moment (Err refusal) = is ∙ ap (settled state moment) refused in
    record {
      reply = ap (λ (d : Done). d.0) (sym whole);
      change = sym change;
      playable = tt;
      locks = ap (λ (d : Done). d.1.locks) (sym whole);
      given = ap (λ (d : Done). d.1.given) (sym whole);
      lock = tt;
      features = ap (λ (d : Done). length d.1.features + 0) whole;
    }

-- a part that refuses what is said refuses the request
pub stays_refused : {A : Type 0} (schema : Schema) (state : State) (moment : ℕ) (request : Request) (r : Result A Refusal) (more : A → Result Done Refusal) (fault : PlanFault)
    → step schema state moment request ≡ settled state moment (r >>= more) → change_of schema state moment request ≡ None → (let s : Result A PlanFault = Err fault in Answers s r) → (let s : Result Plan PlanFault = Err fault in ComesTo schema state moment request s)
stays_refused schema state moment request r more (Refused refusal) is change refused = comes_refused schema state moment request (r >>= more) refusal is change (ap (λ x. x >>= more) refused)
stays_refused schema state moment request r more OutOfMemory is change refused = tt
