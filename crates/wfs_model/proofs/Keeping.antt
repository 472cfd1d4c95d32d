-- A step keeps well what outlives the process, where its request is one of the schema.
use Rattle.std.proofs.Common.{◌≡◌, ℕ, ◌<◌, ◌≤◌, Bool, true, false, not, List, [], ◌∷◌, ◌++◌, length, get_or, All, Option, Some, None, Result, Ok, Err, refl, sym, ◌∙◌, subst}
use Rattle.std.specs.Prelude.{◌||◌, if◌then◌else◌, slice_get}
use Rattle.std.specs.List.{AllPairs, list_any}
use Rattle.std.specs.Str.{bytes_eq}
use Rattle.std.proofs.lemmas.List.Elements.{All-nil, All-cons, All-head, All-tail, All-append, All-weaker, All-filter}
use Rattle.std.proofs.lemmas.List.Kept.{AllPairs-filter}
use Rattle.std.proofs.lemmas.List.Quantifiers.{all_pairs_push}
use Rattle.std.proofs.lemmas.Option.{slice_get_within}
use Rattle.wfs_ends.specs.Read.{◌>>=◌, each}
use Rattle.feature_values.specs.declared.feature.Feature.{Feature}
use Rattle.feature_values.specs.declared.schema.FeatureType.{FeatureType}
use Rattle.feature_values.specs.declared.schema.Schema.{Schema}
use Rattle.feature_values.specs.Fits.{type_fits_if, feature_fits}
use Rattle.lock_table.specs.declared.id.LockId.{LockId}
use Rattle.lock_table.specs.declared.words.Release.{Release}
use Rattle.wfs_model.specs.declared.action.Action.{Action}
use Rattle.wfs_model.specs.declared.stored.StoredQuery.{StoredQuery}
use Rattle.wfs_model.specs.declared.reply.Reply.{Reply}
use Rattle.wfs_model.specs.declared.reply.Reply.TheVariants.{Created, Dropped}
use Rattle.wfs_model.specs.declared.reply.Refusal.{Refusal}
use Rattle.wfs_model.specs.declared.fault.StoredFault.{StoredFault}
use Rattle.wfs_model.specs.declared.fault.StoredFault.TheVariants.{DuplicateId}
use Rattle.wfs_model.specs.declared.request.Request.{Request}
use Rattle.wfs_model.specs.declared.request.Request.TheVariants.{Capabilities, DescribeTypes, GetFeatures, GetValues, GetLocked, Lock, Renew, Transact, ListStored, DescribeStored, CreateStored, DropStored}
use Rattle.wfs_model.specs.State.{State, Durable, durable}
use Rattle.wfs_model.specs.Kept.{IsGiven, IsKept}
use Rattle.wfs_model.specs.OfSchema.{IsStoredOf, IsOfSchema}
use Rattle.wfs_model.specs.Refusals.{or_refused}
use Rattle.wfs_model.specs.Stored.{is_id_query, has_id, is_there, is_known, created_one, created, dropped}
use Rattle.wfs_model.specs.Plans.{Planning, permitted}
use Rattle.wfs_model.specs.Locking.{named_if}
use Rattle.wfs_model.specs.Step.{Done, lock_taken, page_locked, lock_renewed, plan_with, plan_of, carried_out, with_stored, settled, step}
use Rattle.wfs_model.proofs.Playing.{IsCounted}
use Rattle.wfs_model.proofs.Sound.{IsSound, bind_ok, all_play}
use Rattle.wfs_model.proofs.Fitting.{Fits, IsNumbered, all_numbered, IsAllowed, all_allowed}
use Rattle.wfs_model.proofs.Stepping.{sound_kept, lock_keeps, page_keeps, renewal_keeps, created_at, dropped_is}

-- ---- features

-- the type of a feature that the schema allows is one of its types
pub kind_within : (schema : Schema) (f : Feature) → Fits schema f → f.id.kind < length schema.types
unfolding feature_fits
kind_within schema f fits = by_type (slice_get schema.types f.id.kind) refl fits
  where
    by_type : (o : Option FeatureType) → slice_get schema.types f.id.kind ≡ o → type_fits_if o f.values ≡ Ok tt → f.id.kind < length schema.types
    by_type None there is = absurd cc
    by_type (Some of_type) there is = slice_get_within schema.types f.id.kind of_type there

all_given : (schema : Schema) (counters : List ℕ) (fs : List Feature) → length counters ≡ length schema.types → All (IsNumbered schema) fs → All (IsCounted counters) fs → All (λ f. IsGiven counters f.id) fs
all_given schema counters fs counted fitting given k d lt =
    let f : Feature = get_or fs k d in
    let one : IsNumbered schema f = fitting k d lt in
    let within : f.id.kind < length counters = (let there = kind_within schema f one.fits in rw counted there) in
    (one.number, given k d lt within)

pub numbered_kept : (schema : Schema) (kept : Durable) → IsKept schema kept → All (IsNumbered schema) kept.features
numbered_kept schema kept is = all_numbered schema kept.features is.fitting (All-weaker (λ (f : Feature). IsGiven kept.counters f.id) (λ (f : Feature). 1 ≤ f.id.number) (λ f given. given.0) kept.features is.given)

-- ---- stored queries

abbrev pub Different : StoredQuery → StoredQuery → Type 0
Different a b = bytes_eq a.id b.id ≡ false

abbrev pub Made : StoredQuery → Type 0
Made query = is_id_query query.id ≡ false

-- stored queries that are kept well
pub record AreKept (schema : Schema) (stored : List StoredQuery) : Type 0 where
  pub allowed : All (IsStoredOf schema) stored
  pub different : AllPairs Different stored
  pub made : All Made stored

neither : (a b : Bool) → (a || b) ≡ false → (a ≡ false) × (b ≡ false)
neither true b is = absurd cc
neither false b is = (refl, is)

pub none_passes : {X : Type 0} (p : X → Bool) (xs : List X) → list_any p xs ≡ false → All (λ x. p x ≡ false) xs
none_passes {X} p [] none = All-nil (λ (x : X). p x ≡ false)
none_passes {X} p (x ∷ xs) none =
    let parts = neither (p x) (list_any p xs) none in
    All-cons (λ (y : X). p y ≡ false) x xs parts.0 (none_passes p xs parts.1)

unknown : (b : Bool) (fault : StoredFault) (stored now : List StoredQuery) → (let r : Result (List StoredQuery) StoredFault = if b then Err fault else Ok stored in r) ≡ Ok now → b ≡ false
unknown true fault stored now is = absurd cc
unknown false fault stored now is = refl

one_created : (schema : Schema) (stored now : List StoredQuery) (query : StoredQuery) → IsStoredOf schema query → AreKept schema stored → created_one stored query ≡ Ok now → AreKept schema now
unfolding created_one
one_created schema stored now query allowed kept is =
    let new : is_known stored query.id ≡ false = unknown (is_known stored query.id) (DuplicateId query.id) (stored ++ query ∷ []) now is in
    let parts = neither (is_id_query query.id) (is_there stored query.id) new in
    let same : stored ++ query ∷ [] ≡ now = created_at (is_known stored query.id) (DuplicateId query.id) (stored ++ query ∷ []) now is in
    subst (AreKept schema) same (record {
      allowed = All-append (IsStoredOf schema) stored (query ∷ []) kept.allowed (All-cons (IsStoredOf schema) query [] allowed (All-nil (IsStoredOf schema)));
      different = all_pairs_push Different stored query kept.different (none_passes (has_id query.id) stored parts.1);
      made = All-append Made stored (query ∷ []) kept.made (All-cons Made query [] parts.0 (All-nil Made));
    })

pub all_created : (schema : Schema) (stored queries now : List StoredQuery) → All (IsStoredOf schema) queries → AreKept schema stored → created stored queries ≡ Ok now → AreKept schema now
unfolding created each
all_created schema stored [] now allowed kept is = let same : stored ≡ now = cc in subst (AreKept schema) same kept
all_created schema stored (query ∷ queries) now allowed kept is =
    let one = bind_ok (created_one stored query) _ now is in
    all_created schema one.0 queries now (All-tail (IsStoredOf schema) query queries allowed) (one_created schema stored one.0 query (All-head (IsStoredOf schema) query queries allowed) kept one.1) one.2

pub drop_kept : (schema : Schema) (stored now : List StoredQuery) (id : List ℕ) → AreKept schema stored → dropped stored id ≡ Ok now → AreKept schema now
drop_kept schema stored now id kept is =
    let left : StoredQuery → Bool = λ query. not (has_id id query) in
    subst (AreKept schema) (dropped_is stored now id is) (record {
      allowed = All-filter left (IsStoredOf schema) stored kept.allowed;
      different = AllPairs-filter Different left stored kept.different;
      made = All-filter left Made stored kept.made;
    })

-- ---- steps

abbrev pub Keeps : Schema → State → Done → Type 0
Keeps schema state done = IsKept schema (durable done.1)

settled_kept : (schema : Schema) (state : State) (moment : ℕ) (r : Result Done Refusal) → IsKept schema (durable state) → ((done : Done) → r ≡ Ok done → IsKept schema (durable done.1)) → Keeps schema state (settled state moment r)
settled_kept schema state moment (Err refusal) kept h = kept
settled_kept schema state moment (Ok done) kept h = h done refl

ok_done : (done other : Done) → (let r : Result Done Refusal = Ok done in r) ≡ Ok other → done ≡ other
ok_done done other is = cc

same_kept : (schema : Schema) (state : State) (moment : ℕ) (r : Result Done Refusal) → IsKept schema (durable state) → ((done : Done) → r ≡ Ok done → durable done.1 ≡ durable state) → Keeps schema state (settled state moment r)
same_kept schema state moment r kept h = settled_kept schema state moment r kept (λ done is. subst (IsKept schema) (sym (h done is)) kept)

plan_kept : (schema : Schema) (state : State) (moment : ℕ) (lock : Option LockId) (release : Release) (plan : Planning) → IsKept schema (durable state) → IsSound plan.at → IsAllowed schema (length state.counters) plan.at → IsKept schema (durable (carried_out state moment lock release plan).1)
unfolding carried_out
plan_kept schema state moment lock release plan kept sound allowed = record {
  order = sound.order;
  fitting = All-weaker (IsNumbered schema) (Fits schema) (λ f one. one.fits) plan.at.features allowed.fitting;
  given = all_given schema plan.at.counters plan.at.features (allowed.counters ∙ kept.counters) allowed.fitting sound.counted;
  counters = allowed.counters ∙ kept.counters;
  stored = kept.stored;
  different = kept.different;
  made = kept.made;
}

transact_kept : (schema : Schema) (state : State) (moment : ℕ) (lock : Option LockId) (release : Release) (actions : List Action) → IsKept schema (durable state) → IsOfSchema schema (Transact lock release actions) → Keeps schema state (step schema state moment (Transact lock release actions))
unfolding step plan_of plan_with
transact_kept schema state moment lock release actions kept of_schema =
    settled_kept schema state moment (plan_of schema state moment lock actions >>= λ plan. Ok (carried_out state moment lock release plan)) kept (λ done is.
    let one = bind_ok (plan_of schema state moment lock actions) _ done is in
    let two = bind_ok (named_if state moment lock) _ one.0 one.1 in
    let plays = all_play (durable state) (permitted schema state.locks moment two.0) state.features state.counters actions one.0 (sound_kept schema (durable state) kept) two.2 in
    let allowed = all_allowed schema (permitted schema state.locks moment two.0) state.features state.counters actions one.0 of_schema.actions (numbered_kept schema (durable state) kept) two.2 in
    subst (λ (d : Done). IsKept schema (durable d.1)) (ok_done (carried_out state moment lock release one.0) done one.2) (plan_kept schema state moment lock release one.0 kept plays.sound allowed))

with_stored_kept : (schema : Schema) (state : State) (moment : ℕ) (reply : Reply) (r : Result (List StoredQuery) StoredFault) → IsKept schema (durable state) → ((now : List StoredQuery) → r ≡ Ok now → AreKept schema now) → Keeps schema state (settled state moment (or_refused r >>= λ stored. Ok (with_stored state reply stored)))
with_stored_kept schema state moment reply (Err fault) kept h = kept
with_stored_kept schema state moment reply (Ok now) kept h =
    let are = h now refl in
    record { order = kept.order; fitting = kept.fitting; given = kept.given; counters = kept.counters; stored = are.allowed; different = are.different; made = are.made }

pub are_kept : (schema : Schema) (kept : Durable) → IsKept schema kept → AreKept schema kept.stored
are_kept schema kept is = record { allowed = is.stored; different = is.different; made = is.made }

-- a step keeps well what is kept well
pub step_keeps : (schema : Schema) (state : State) (moment : ℕ) (request : Request) → IsKept schema (durable state) → IsOfSchema schema request → IsKept schema (durable (step schema state moment request).1)
unfolding step
step_keeps schema state moment Capabilities kept of_schema = kept
step_keeps schema state moment (DescribeTypes kinds) kept of_schema = kept
step_keeps schema state moment (GetFeatures present asked) kept of_schema = kept
step_keeps schema state moment (GetValues present asked property) kept of_schema = kept
step_keeps schema state moment (GetLocked present asked take period) kept of_schema =
    same_kept schema state moment (page_locked schema state moment present asked take period) kept (page_keeps schema state moment present asked take period)
step_keeps schema state moment (Lock asked take period) kept of_schema =
    same_kept schema state moment (lock_taken schema state moment asked take period) kept (lock_keeps schema state moment asked take period)
step_keeps schema state moment (Renew lock period) kept of_schema =
    same_kept schema state moment (lock_renewed state moment lock period) kept (renewal_keeps state moment lock period)
step_keeps schema state moment (Transact lock release actions) kept of_schema = transact_kept schema state moment lock release actions kept of_schema
step_keeps schema state moment ListStored kept of_schema = kept
step_keeps schema state moment (DescribeStored ids) kept of_schema = kept
step_keeps schema state moment (CreateStored queries) kept of_schema =
    with_stored_kept schema state moment Created (created state.stored queries) kept (λ now is. all_created schema state.stored queries now of_schema.stored (are_kept schema (durable state) kept) is)
step_keeps schema state moment (DropStored id) kept of_schema =
    with_stored_kept schema state moment Dropped (dropped state.stored id) kept (λ now is. drop_kept schema state.stored now id (are_kept schema (durable state) kept) is)
