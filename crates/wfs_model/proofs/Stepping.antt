-- What a step leaves of what outlives the process is what the change that it makes leaves.
use Rattle.std.proofs.Common.{◌≡◌, ℕ, Bool, true, false, List, [], ◌∷◌, ◌++◌, length, take, Option, None, Result, Ok, Err, refl, sym, ap, ◌∙◌, subst, append_assoc, arith}
use Rattle.std.specs.Prelude.{◌==◌, if◌then◌else◌}
use Rattle.std.specs.List.{fold}
use Rattle.std.specs.Option.{option_to_list}
use Rattle.std.proofs.lemmas.List.Sums.{fold-append}
use Rattle.std.proofs.lemmas.List.Elements.{All-weaker}
use Rattle.wfs_ends.specs.Read.{◌>>=◌, each}
use Rattle.feature_values.specs.declared.feature.Feature.{Feature}
use Rattle.feature_values.specs.declared.feature.Rid.{Rid}
use Rattle.feature_values.specs.declared.schema.Schema.{Schema}
use Rattle.query_core.specs.Selecting.{all_selected}
use Rattle.query_core.specs.Paging.{page_of}
use Rattle.lock_table.specs.declared.id.LockId.{LockId}
use Rattle.lock_table.specs.declared.words.Release.{Release}
use Rattle.wfs_model.specs.declared.action.Action.{Action}
use Rattle.wfs_model.specs.declared.asked.Asked.{Asked}
use Rattle.wfs_model.specs.declared.asked.Present.{Present}
use Rattle.wfs_model.specs.declared.stored.StoredQuery.{StoredQuery}
use Rattle.wfs_model.specs.declared.change.Part.{Part}
use Rattle.wfs_model.specs.declared.change.Change.{Change}
use Rattle.wfs_model.specs.declared.change.Change.TheVariants.{Created, Dropped}
use Rattle.wfs_model.specs.declared.entry.Entry.{Entry}
use Rattle.wfs_model.specs.declared.reply.Reply.{Reply}
use Rattle.wfs_model.specs.declared.reply.Refusal.{Refusal}
use Rattle.wfs_model.specs.declared.fault.StoredFault.{StoredFault}
use Rattle.wfs_model.specs.declared.fault.StoredFault.TheVariants.{DuplicateId, Unknown}
use Rattle.wfs_model.specs.declared.request.Take.{Take}
use Rattle.wfs_model.specs.declared.request.Request.{Request}
use Rattle.wfs_model.specs.declared.request.Request.TheVariants.{Capabilities, DescribeTypes, GetFeatures, GetValues, GetLocked, Lock, Renew, Transact, ListStored, DescribeStored, CreateStored, DropStored}
use Rattle.wfs_model.specs.State.{State, Durable, durable}
use Rattle.wfs_model.specs.Kept.{IsGiven, IsKept}
use Rattle.wfs_model.specs.Refusals.{or_refused}
use Rattle.wfs_model.specs.Stored.{is_known, is_there, created_one, created, without_query, dropped}
use Rattle.wfs_model.specs.Expand.{all_expanded}
use Rattle.wfs_model.specs.Acts.{begun}
use Rattle.wfs_model.specs.Plans.{Planning, permitted}
use Rattle.wfs_model.specs.Locking.{named, named_if, divided, locked}
use Rattle.wfs_model.specs.Step.{Done, lock_taken, page_locked, lock_renewed, plan_with, plan_of, carried_out, with_stored, settled, step}
use Rattle.wfs_model.specs.Played.{rows_of, rows_if, if_accepted, change_of, accepted, part_played, played_one, played}
use Rattle.wfs_model.specs.History.{stepped, after_all}
use Rattle.wfs_model.proofs.Middle.{append_none}
use Rattle.wfs_model.proofs.Playing.{IsCounted}
use Rattle.wfs_model.proofs.Sound.{IsSound, Plays, bind_ok, all_play}

-- what is kept is sound
abbrev pub IsSoundKept : Durable → Type 0
IsSoundKept kept = IsSound (begun kept.features kept.counters)

-- what is kept after a step is what the change left, and is sound
pub record Follows (kept now : Durable) (change : Option Change) : Type 0 where
  pub is : now ≡ played kept (option_to_list change)
  pub sound : IsSoundKept now

same_follows : (kept now : Durable) → IsSoundKept kept → now ≡ kept → Follows kept now None
same_follows kept now sound is = record { is = is; sound = subst IsSoundKept (sym is) sound }

-- ---- steps that change no feature

-- a step keeps what is kept, where its work does
pub settled_keeps : (state : State) (moment : ℕ) (r : Result Done Refusal) → ((done : Done) → r ≡ Ok done → durable done.1 ≡ durable state) → durable (settled state moment r).1 ≡ durable state
settled_keeps state moment (Err refusal) h = refl
settled_keeps state moment (Ok done) h = h done refl

locked_at : (state other : State) (b : Bool) → durable other ≡ durable state → durable (if b then state else other) ≡ durable state
locked_at state other true is = refl
locked_at state other false is = is

locked_keeps : (state : State) (moment period : ℕ) (taken : List Rid) → durable (locked state moment period taken) ≡ durable state
unfolding locked
locked_keeps state moment period taken = locked_at state _ (length taken == 0) refl

ok_is : (done other : Done) → (let r : Result Done Refusal = Ok done in r) ≡ Ok other → done ≡ other
ok_is done other e = cc

pub lock_keeps : (schema : Schema) (state : State) (moment : ℕ) (asked : List Asked) (take : Take) (period : ℕ) (done : Done) → lock_taken schema state moment asked take period ≡ Ok done → durable done.1 ≡ durable state
unfolding lock_taken
lock_keeps schema state moment asked take period done is =
    let one = bind_ok (or_refused (all_expanded schema state.stored asked)) _ done is in
    let two = bind_ok (divided schema state.locks moment take (all_selected state.features one.0)) _ done one.2 in
    ap (λ (d : Done). durable d.1) (sym (ok_is _ done two.2)) ∙ locked_keeps state moment period two.0.taken

pub page_keeps : (schema : Schema) (state : State) (moment : ℕ) (present : Present) (asked : List Asked) (take : Take) (period : ℕ) (done : Done) → page_locked schema state moment present asked take period ≡ Ok done → durable done.1 ≡ durable state
unfolding page_locked
page_keeps schema state moment present asked take period done is =
    let one = bind_ok (or_refused (all_expanded schema state.stored asked)) _ done is in
    let two = bind_ok (divided schema state.locks moment take (page_of present.start present.count (all_selected state.features one.0))) _ done one.2 in
    ap (λ (d : Done). durable d.1) (sym (ok_is _ done two.2)) ∙ locked_keeps state moment period two.0.taken

pub renewal_keeps : (state : State) (moment : ℕ) (id : LockId) (period : Option ℕ) (done : Done) → lock_renewed state moment id period ≡ Ok done → durable done.1 ≡ durable state
unfolding lock_renewed
renewal_keeps state moment id period done is =
    let one = bind_ok (named state moment id) _ done is in
    ap (λ (d : Done). durable d.1) (sym (ok_is _ done one.2))

-- ---- transactions

rows_at : (kept : Durable) (parts : List Part) → played kept (option_to_list (rows_of parts)) ≡ fold part_played kept parts
unfolding played_one
rows_at kept [] = refl
rows_at kept (part ∷ parts) = let some : (length (part ∷ parts) == 0) ≡ false = grind arith in rw some refl

planned_follows : (state : State) (moment : ℕ) (lock : Option LockId) (release : Release) (r : Result Planning Refusal) → IsSoundKept (durable state) → ((plan : Planning) → r ≡ Ok plan → Plays (durable state) plan.parts (begun state.features state.counters) plan.at)
    → Follows (durable state) (durable (settled state moment (r >>= λ plan. Ok (carried_out state moment lock release plan))).1) (rows_if r)
unfolding carried_out
planned_follows state moment lock release (Err refusal) sound h = same_follows (durable state) (durable state) sound refl
planned_follows state moment lock release (Ok plan) sound h =
    let plays : Plays (durable state) plan.parts (begun state.features state.counters) plan.at = h plan refl in
    record { is = sym (rows_at (durable state) plan.parts ∙ plays.played); sound = record { order = plays.sound.order; counted = plays.sound.counted } }

transact_follows : (schema : Schema) (state : State) (moment : ℕ) (lock : Option LockId) (release : Release) (actions : List Action) → IsSoundKept (durable state) → Follows (durable state) (durable (step schema state moment (Transact lock release actions)).1) (change_of schema state moment (Transact lock release actions))
unfolding step change_of plan_of plan_with
transact_follows schema state moment lock release actions sound =
    planned_follows state moment lock release (named_if state moment lock >>= λ number. plan_with schema state moment actions number) sound
    (λ plan is. let one = bind_ok (named_if state moment lock) _ plan is in all_play (durable state) (permitted schema state.locks moment one.0) state.features state.counters actions plan sound one.2)

-- ---- stored queries

pub created_at : (b : Bool) (fault : StoredFault) (stored now : List StoredQuery) → (let r : Result (List StoredQuery) StoredFault = if b then Err fault else Ok stored in r) ≡ Ok now → stored ≡ now
created_at true fault stored now e = absurd cc
created_at false fault stored now e = cc

pub created_all : (stored queries now : List StoredQuery) → created stored queries ≡ Ok now → now ≡ stored ++ queries
unfolding created each created_one
created_all stored [] now e = (let same : stored ≡ now = cc in sym same) ∙ sym (append_none stored)
created_all stored (query ∷ queries) now e =
    let one = bind_ok (created_one stored query) _ now e in
    let first : stored ++ query ∷ [] ≡ one.0 = created_at (is_known stored query.id) (DuplicateId query.id) (stored ++ query ∷ []) one.0 one.1 in
    created_all one.0 queries now one.2 ∙ ap (λ (l : List StoredQuery). l ++ queries) (sym first) ∙ append_assoc stored (query ∷ []) queries

dropped_at : (b : Bool) (fault : StoredFault) (stored now : List StoredQuery) → (let r : Result (List StoredQuery) StoredFault = if b then Ok stored else Err fault in r) ≡ Ok now → stored ≡ now
dropped_at true fault stored now e = cc
dropped_at false fault stored now e = absurd cc

pub dropped_is : (stored now : List StoredQuery) (id : List ℕ) → dropped stored id ≡ Ok now → without_query stored id ≡ now
unfolding dropped
dropped_is stored now id e = dropped_at (is_there stored id) (Unknown id) (without_query stored id) now e

stored_follows : (state : State) (moment : ℕ) (reply : Reply) (change : Change) (r : Result (List StoredQuery) StoredFault) → IsSoundKept (durable state) → ((stored : List StoredQuery) → r ≡ Ok stored → record (durable state) { stored = stored } ≡ played_one (durable state) change)
    → Follows (durable state) (durable (settled state moment (or_refused r >>= λ stored. Ok (with_stored state reply stored))).1) (if_accepted r change)
stored_follows state moment reply change (Err fault) sound h = same_follows (durable state) (durable state) sound refl
stored_follows state moment reply change (Ok stored) sound h = record { is = h stored refl; sound = sound }

create_follows : (schema : Schema) (state : State) (moment : ℕ) (queries : List StoredQuery) → IsSoundKept (durable state) → Follows (durable state) (durable (step schema state moment (CreateStored queries)).1) (change_of schema state moment (CreateStored queries))
unfolding step change_of played_one
create_follows schema state moment queries sound =
    stored_follows state moment _ (Created queries) (created state.stored queries) sound (λ stored is. ap (λ (l : List StoredQuery). record (durable state) { stored = l }) (created_all state.stored queries stored is))

drop_follows : (schema : Schema) (state : State) (moment : ℕ) (id : List ℕ) → IsSoundKept (durable state) → Follows (durable state) (durable (step schema state moment (DropStored id)).1) (change_of schema state moment (DropStored id))
unfolding step change_of played_one
drop_follows schema state moment id sound =
    stored_follows state moment _ (Dropped id) (dropped state.stored id) sound (λ stored is. ap (λ (l : List StoredQuery). record (durable state) { stored = l }) (sym (dropped_is state.stored stored id is)))

-- ---- all steps

pub step_follows : (schema : Schema) (state : State) (moment : ℕ) (request : Request) → IsSoundKept (durable state) → Follows (durable state) (durable (step schema state moment request).1) (change_of schema state moment request)
unfolding step change_of
step_follows schema state moment Capabilities sound = same_follows (durable state) (durable state) sound refl
step_follows schema state moment (DescribeTypes kinds) sound = same_follows (durable state) (durable state) sound refl
step_follows schema state moment (GetFeatures present asked) sound = same_follows (durable state) (durable state) sound refl
step_follows schema state moment (GetValues present asked property) sound = same_follows (durable state) (durable state) sound refl
step_follows schema state moment (GetLocked present asked take period) sound =
    same_follows (durable state) _ sound (settled_keeps state moment (page_locked schema state moment present asked take period) (page_keeps schema state moment present asked take period))
step_follows schema state moment (Lock asked take period) sound =
    same_follows (durable state) _ sound (settled_keeps state moment (lock_taken schema state moment asked take period) (lock_keeps schema state moment asked take period))
step_follows schema state moment (Renew lock period) sound =
    same_follows (durable state) _ sound (settled_keeps state moment (lock_renewed state moment lock period) (renewal_keeps state moment lock period))
step_follows schema state moment (Transact lock release actions) sound = transact_follows schema state moment lock release actions sound
step_follows schema state moment ListStored sound = same_follows (durable state) (durable state) sound refl
step_follows schema state moment (DescribeStored ids) sound = same_follows (durable state) (durable state) sound refl
step_follows schema state moment (CreateStored queries) sound = create_follows schema state moment queries sound
step_follows schema state moment (DropStored id) sound = drop_follows schema state moment id sound

-- ---- histories

after_follows : (schema : Schema) (state : State) (entries : List Entry) → IsSoundKept (durable state) → durable (after_all schema state entries) ≡ played (durable state) (accepted schema state entries)
after_follows schema state [] sound = refl
after_follows schema state (entry ∷ entries) sound =
    let first : Follows (durable state) (durable (stepped schema state entry)) (change_of schema state entry.moment entry.request) = step_follows schema state entry.moment entry.request sound in
    after_follows schema (stepped schema state entry) entries first.sound
    ∙ ap (λ (k : Durable). played k (accepted schema (stepped schema state entry) entries)) first.is
    ∙ sym (fold-append played_one (durable state) (option_to_list (change_of schema state entry.moment entry.request)) (accepted schema (stepped schema state entry) entries))

pub sound_kept : (schema : Schema) (kept : Durable) → IsKept schema kept → IsSoundKept kept
sound_kept schema kept is = record { order = is.order; counted = All-weaker (λ (f : Feature). IsGiven kept.counters f.id) (IsCounted kept.counters) (λ f given there. given.1) kept.features is.given }

-- what outlives the process after entries is what their changes leave
pub all_follow : (schema : Schema) (opening : State) (entries : List Entry) (n : ℕ) → IsKept schema (durable opening) → durable (after_all schema opening (take n entries)) ≡ played (durable opening) (accepted schema opening (take n entries))
all_follow schema opening entries n is = after_follows schema opening (take n entries) (sound_kept schema (durable opening) is)
