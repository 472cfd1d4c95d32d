-- What a refused step leaves, and the last moment after a step.
use Rattle.std.proofs.Common.{◌≡◌, ℕ, List, Option, Result, Ok, Err, refl, ◌∙◌}
use Rattle.wfs_ends.specs.Read.{◌>>=◌}
use Rattle.feature_values.specs.declared.schema.Schema.{Schema}
use Rattle.query_core.specs.Selecting.{all_selected}
use Rattle.query_core.specs.Paging.{page_of}
use Rattle.lock_table.specs.declared.id.LockId.{LockId}
use Rattle.lock_table.specs.declared.words.Release.{Release}
use Rattle.wfs_model.specs.declared.asked.Asked.{Asked}
use Rattle.wfs_model.specs.declared.asked.Present.{Present}
use Rattle.wfs_model.specs.declared.stored.StoredQuery.{StoredQuery}
use Rattle.wfs_model.specs.declared.reply.Reply.TheVariants.{Created, Dropped, Refused}
use Rattle.wfs_model.specs.declared.reply.Refusal.{Refusal}
use Rattle.wfs_model.specs.declared.request.Take.{Take}
use Rattle.wfs_model.specs.declared.request.Request.{Request}
use Rattle.wfs_model.specs.declared.request.Request.TheVariants.{Capabilities, DescribeTypes, GetFeatures, GetValues, GetLocked, Lock, Renew, Transact, ListStored, DescribeStored, CreateStored, DropStored}
use Rattle.wfs_model.specs.Changing.{IsChange}
use Rattle.wfs_model.specs.State.{State}
use Rattle.wfs_model.specs.Refusals.{or_refused}
use Rattle.wfs_model.specs.Stored.{created, dropped}
use Rattle.wfs_model.specs.Expand.{all_expanded}
use Rattle.wfs_model.specs.Plans.{Planning}
use Rattle.wfs_model.specs.Locking.{named, divided}
use Rattle.wfs_model.specs.Step.{Done, lock_taken, page_locked, lock_renewed, plan_of, carried_out, with_stored, settled, step}
use Rattle.wfs_model.proofs.Sound.{bind_ok}

-- ---- refusals

-- work that is done does not answer with a refusal
abbrev Answers : Result Done Refusal → Type 0
Answers r = (done : Done) (refusal : Refusal) → r ≡ Ok done → done.0 ≡ Refused refusal → ⊥

refused_at : (state : State) (moment : ℕ) (r : Result Done Refusal) (refusal : Refusal) → Answers r → (settled state moment r).0 ≡ Refused refusal → (settled state moment r).1 ≡ record state { last = moment }
refused_at state moment (Err other) refusal answers is = refl
refused_at state moment (Ok done) refusal answers is = absurd (answers done refusal refl is)

reply_is : (done other : Done) → (let r : Result Done Refusal = Ok done in r) ≡ Ok other → done.0 ≡ other.0
reply_is done other e = cc

lock_answers : (schema : Schema) (state : State) (moment : ℕ) (asked : List Asked) (take : Take) (period : ℕ) → Answers (lock_taken schema state moment asked take period)
unfolding lock_taken
lock_answers schema state moment asked take period done refusal is refused =
    let one = bind_ok (or_refused (all_expanded schema state.stored asked)) _ done is in
    let two = bind_ok (divided schema state.locks moment take (all_selected state.features one.0)) _ done one.2 in
    let reply = reply_is _ done two.2 ∙ refused in absurd (let bad = reply in cc)

page_answers : (schema : Schema) (state : State) (moment : ℕ) (present : Present) (asked : List Asked) (take : Take) (period : ℕ) → Answers (page_locked schema state moment present asked take period)
unfolding page_locked
page_answers schema state moment present asked take period done refusal is refused =
    let one = bind_ok (or_refused (all_expanded schema state.stored asked)) _ done is in
    let two = bind_ok (divided schema state.locks moment take (page_of present.start present.count (all_selected state.features one.0))) _ done one.2 in
    let reply = reply_is _ done two.2 ∙ refused in absurd (let bad = reply in cc)

renewal_answers : (state : State) (moment : ℕ) (id : LockId) (period : Option ℕ) → Answers (lock_renewed state moment id period)
unfolding lock_renewed
renewal_answers state moment id period done refusal is refused =
    let one = bind_ok (named state moment id) _ done is in
    let reply = reply_is _ done one.2 ∙ refused in absurd (let bad = reply in cc)

plan_answers : (state : State) (moment : ℕ) (lock : Option LockId) (release : Release) (r : Result Planning Refusal) → Answers (r >>= λ plan. Ok (carried_out state moment lock release plan))
unfolding carried_out
plan_answers state moment lock release r done refusal is refused =
    let one = bind_ok r _ done is in
    let reply = reply_is _ done one.2 ∙ refused in absurd (let bad = reply in cc)

created_answers : (state : State) (r : Result (List StoredQuery) Refusal) → Answers (r >>= λ stored. Ok (with_stored state Created stored))
created_answers state r done refusal is refused =
    let one = bind_ok r _ done is in
    let reply = reply_is _ done one.2 ∙ refused in absurd (let bad = reply in cc)

dropped_answers : (state : State) (r : Result (List StoredQuery) Refusal) → Answers (r >>= λ stored. Ok (with_stored state Dropped stored))
dropped_answers state r done refusal is refused =
    let one = bind_ok r _ done is in
    let reply = reply_is _ done one.2 ∙ refused in absurd (let bad = reply in cc)

pub refused_keeps : (schema : Schema) (state : State) (moment : ℕ) (request : Request) (refusal : Refusal) → IsChange request → (step schema state moment request).0 ≡ Refused refusal → (step schema state moment request).1 ≡ record state { last = moment }
unfolding step
refused_keeps schema state moment Capabilities refusal change is = absurd change
refused_keeps schema state moment (DescribeTypes kinds) refusal change is = absurd change
refused_keeps schema state moment (GetFeatures present asked) refusal change is = absurd change
refused_keeps schema state moment (GetValues present asked property) refusal change is = absurd change
refused_keeps schema state moment (GetLocked present asked take period) refusal change is = refused_at state moment (page_locked schema state moment present asked take period) refusal (page_answers schema state moment present asked take period) is
refused_keeps schema state moment (Lock asked take period) refusal change is = refused_at state moment (lock_taken schema state moment asked take period) refusal (lock_answers schema state moment asked take period) is
refused_keeps schema state moment (Renew lock period) refusal change is = refused_at state moment (lock_renewed state moment lock period) refusal (renewal_answers state moment lock period) is
refused_keeps schema state moment (Transact lock release actions) refusal change is =
    refused_at state moment _ refusal (plan_answers state moment lock release (plan_of schema state moment lock actions)) is
refused_keeps schema state moment ListStored refusal change is = absurd change
refused_keeps schema state moment (DescribeStored ids) refusal change is = absurd change
refused_keeps schema state moment (CreateStored queries) refusal change is = refused_at state moment _ refusal (created_answers state (or_refused (created state.stored queries))) is
refused_keeps schema state moment (DropStored id) refusal change is = refused_at state moment _ refusal (dropped_answers state (or_refused (dropped state.stored id))) is

-- ---- moments

settled_moment : (state : State) (moment : ℕ) (r : Result Done Refusal) → (settled state moment r).1.last ≡ moment
settled_moment state moment (Err refusal) = refl
settled_moment state moment (Ok done) = refl

pub step_moment : (schema : Schema) (state : State) (moment : ℕ) (request : Request) → IsChange request → (step schema state moment request).1.last ≡ moment
unfolding step
step_moment schema state moment Capabilities change = absurd change
step_moment schema state moment (DescribeTypes kinds) change = absurd change
step_moment schema state moment (GetFeatures present asked) change = absurd change
step_moment schema state moment (GetValues present asked property) change = absurd change
step_moment schema state moment (GetLocked present asked take period) change = settled_moment state moment _
step_moment schema state moment (Lock asked take period) change = settled_moment state moment _
step_moment schema state moment (Renew lock period) change = settled_moment state moment _
step_moment schema state moment (Transact lock release actions) change = settled_moment state moment _
step_moment schema state moment ListStored change = absurd change
step_moment schema state moment (DescribeStored ids) change = absurd change
step_moment schema state moment (CreateStored queries) change = settled_moment state moment _
step_moment schema state moment (DropStored id) change = settled_moment state moment _
