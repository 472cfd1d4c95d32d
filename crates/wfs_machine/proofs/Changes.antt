-- Changes of what outlives the process: those that steps make, and what they leave of a machine.
use Rattle.std.proofs.Common.{◌≡◌, ℕ, Bool, true, false, List, [], ◌∷◌, ◌++◌, All, Option, Some, None, Result, Ok, Err, refl, sym, ap, ◌∙◌, subst}
use Rattle.std.specs.Prelude.{if◌then◌else◌, OnErr, is_ok}
use Rattle.std.specs.List.{fold}
use Rattle.std.specs.Option.{option_to_list}
use Rattle.std.proofs.lemmas.List.Elements.{All-head, All-tail}
use Rattle.wfs_ends.specs.Read.{GivesBut}
use Rattle.feature_values.specs.declared.feature.Feature.{Feature}
use Rattle.feature_values.specs.declared.schema.Schema.{Schema}
use Rattle.lock_table.specs.Lock.{Lock, Locks}
use Rattle.wfs_model.specs.declared.change.Change.{Change}
use Rattle.wfs_model.specs.declared.change.Part.{Part}
use Rattle.wfs_model.specs.declared.change.Part.TheVariants.{Put, Remove}
use Rattle.wfs_model.specs.declared.change.Change.TheVariants.{Rows}
use Rattle.wfs_model.specs.declared.reply.Refusal.{Refusal}
use Rattle.wfs_model.specs.declared.fault.StoredFault.{StoredFault}
use Rattle.wfs_model.specs.declared.fault.StoredFault.TheVariants.{Unknown, OutOfMemory as NoMemory}
use Rattle.wfs_model.specs.declared.request.Request.{Request}
use Rattle.wfs_model.specs.declared.stored.StoredQuery.{StoredQuery}
use Rattle.wfs_model.specs.Kept.{IsKept}
use Rattle.wfs_model.specs.OfSchema.{IsOfSchema}
use Rattle.wfs_model.specs.Plans.{Planning}
use Rattle.wfs_model.specs.Played.{rows_of, rows_if, if_accepted, change_of, part_played, played}
use Rattle.wfs_model.specs.State.{State, Durable, Machine, durable, opened}
use Rattle.wfs_model.specs.Step.{step}
use Rattle.wfs_model.specs.Stored.{has_id, is_there, created, dropped, without_query}
use Rattle.wfs_model.proofs.Keeping.{none_passes, step_keeps}
use Rattle.wfs_model.proofs.Stepping.{Follows, step_follows, sound_kept, created_all}
use Rattle.stored_queries.specs.Listed.{left}
use Rattle.transaction_core.specs.declared.fault.PlanFault.{PlanFault}
use Rattle.transaction_core.specs.declared.fault.PlanFault.TheVariants.{Refused, OutOfMemory as WantOfMemory}
use Rattle.transaction_core.specs.declared.planned.Planned.{Planned}
use Rattle.transaction_core.specs.Plan.{Answers, planned_by, if_planned}
use Rattle.wfs_machine.specs.Told.{IsSaid}
use Rattle.wfs_machine.specs.Kept.{IsRunning, KeepsWell, with_durable}

-- the change of a step keeps well what outlives the process
pub made_keeps : (schema : Schema) (state : State) (moment : ℕ) (request : Request) (change : Change) → IsKept schema (durable state) → IsOfSchema schema request → Some change ≡ change_of schema state moment request → KeepsWell schema state change
made_keeps schema state moment request change kept fits makes =
    let follows : Follows (durable state) (durable (step schema state moment request).1) (change_of schema state moment request) = step_follows schema state moment request (sound_kept schema (durable state) kept) in
    subst (λ (o : Option Change). IsKept schema (played (durable state) (option_to_list o))) (sym makes) (subst (IsKept schema) follows.is (step_keeps schema state moment request kept fits))

-- ---- a machine behind a change

-- other things that outlive the process, part by part
pub durable_is : (state : State) (kept : Durable) (features : List Feature) (counters : List ℕ) (stored : List StoredQuery) (opening : ℕ) (locks : List Lock) (given last : ℕ)
    → features ≡ kept.features → counters ≡ kept.counters → stored ≡ kept.stored → opening ≡ kept.opening → locks ≡ state.locks → given ≡ state.given → last ≡ state.last
    → record { features = features; counters = counters; stored = stored; opening = opening; locks = locks; given = given; last = last } ≡ with_durable state kept
durable_is state kept features counters stored opening locks given last a b c d e f g = rw (a, b, c, d, e, f, g) refl

-- the machine goes on behind them
pub goes_on : (machine : Machine) (schema : Schema) (before now : State) (kept : Durable) (table : Locks) → record { schema = schema; state = before } ≡ machine → IsRunning schema before table
    → now ≡ with_durable machine.state kept → kept.opening ≡ machine.state.opening → IsKept machine.schema kept → IsRunning schema now table
goes_on machine schema before now kept table view running is opening well =
    let old : IsRunning machine.schema machine.state table = subst (λ (m : Machine). IsRunning m.schema m.state table) view running in
    let new : IsRunning machine.schema now table = subst (λ (s : State). IsRunning machine.schema s table) (sym is)
    (record { kept = well; opening = old.opening ∙ sym opening; given = old.given; later = old.later; last = old.last }) in
    subst (λ (s : Schema). IsRunning s now table) (sym (ap (λ (m : Machine). m.schema) view)) new

part_opening : (kept : Durable) (part : Part) → (part_played kept part).opening ≡ kept.opening
unfolding part_played
part_opening kept (Put f) = refl
part_opening kept (Remove id) = refl

pub played_opening : (kept : Durable) (parts : List Part) → (fold part_played kept parts).opening ≡ kept.opening
played_opening kept [] = refl
played_opening kept (part ∷ parts) = played_opening (part_played kept part) parts ∙ part_opening kept part

-- ---- stored queries that go

pub there_is : (inside stored : List StoredQuery) (text id : List ℕ) (found b : Bool) → inside ≡ stored → text ≡ id → found ≡ is_there inside text → found ≡ b → is_there stored id ≡ b
there_is inside stored text id found b lists texts is so = rw (sym lists, sym texts) (sym is ∙ so)

dropped_there : (b : Bool) (fault : StoredFault) (stored : List StoredQuery) (change : Change) → b ≡ true → Some change ≡ if_accepted (let r : Result (List StoredQuery) StoredFault = if b then Ok stored else Err fault in r) change
dropped_there true fault stored change is = refl
dropped_there false fault stored change is = absurd cc

dropped_not_there : (b : Bool) (fault : StoredFault) (stored : List StoredQuery) (change : Change) → b ≡ false → None ≡ if_accepted (let r : Result (List StoredQuery) StoredFault = if b then Ok stored else Err fault in r) change
dropped_not_there true fault stored change is = absurd cc
dropped_not_there false fault stored change is = refl

pub drops_one : (stored : List StoredQuery) (id : List ℕ) (change : Change) → is_there stored id ≡ true → Some change ≡ if_accepted (dropped stored id) change
unfolding dropped
drops_one stored id change there = dropped_there (is_there stored id) (Unknown id) (without_query stored id) change there

pub drops_none : (stored : List StoredQuery) (id : List ℕ) (change : Change) → is_there stored id ≡ false → None ≡ if_accepted (dropped stored id) change
unfolding dropped
drops_none stored id change there = dropped_not_there (is_there stored id) (Unknown id) (without_query stored id) change there

-- what has no query with an identifier is the same without it
without_none : (id : List ℕ) (stored : List StoredQuery) → All (λ query. has_id id query ≡ false) stored → without_query stored id ≡ stored
without_none id [] none = refl
without_none id (query ∷ stored) none =
    rw (All-head (λ (q : StoredQuery). has_id id q ≡ false) query stored none) (ap (λ l. query ∷ l) (without_none id stored (All-tail (λ (q : StoredQuery). has_id id q ≡ false) query stored none)))

gone_at : (b : Bool) (fault : StoredFault) (stored now without : List StoredQuery) (r : Result (Unit {0}) StoredFault) → (b ≡ false → without ≡ stored)
    → left now r ≡ (let s : Result (List StoredQuery) StoredFault = if b then Ok without else Err fault in s) → OnErr r (now ≡ stored) → now ≡ without
gone_at true fault stored now without (Ok _) none is same = cc
gone_at true fault stored now without (Err other) none is same = absurd cc
gone_at false fault stored now without (Ok _) none is same = absurd cc
gone_at false fault stored now without (Err other) none is same = same ∙ sym (none refl)

-- a query is taken away, whether it was there or not
pub gone : (stored now : List StoredQuery) (id : List ℕ) (r : Result (Unit {0}) StoredFault) → left now r ≡ dropped stored id → OnErr r (now ≡ stored) → now ≡ without_query stored id
unfolding dropped
gone stored now id r is same =
    gone_at (is_there stored id) (Unknown id) stored now (without_query stored id) r (λ none. without_none id stored (none_passes (has_id id) stored none)) is same

-- ---- stored queries that come

abbrev pub with_queries : Durable → List StoredQuery → Durable
with_queries kept queries = record kept { stored = kept.stored ++ queries }

-- where they are made they stand behind the others
pub adds : (stored queries now : List StoredQuery) (r : Result (Unit {0}) StoredFault) → GivesBut NoMemory (λ _. now) r (created stored queries) → is_ok r ≡ true → now ≡ stored ++ queries
adds stored queries now (Ok _) gives made = created_all stored queries now gives
adds stored queries now (Err fault) gives made = absurd cc

-- where they are not they are as before
pub adds_none : (stored now : List StoredQuery) (r : Result (Unit {0}) StoredFault) → OnErr r (now ≡ stored) → is_ok r ≡ false → now ≡ stored
adds_none stored now (Ok _) same made = absurd cc
adds_none stored now (Err fault) same made = same

-- whether they are made or not, what outlives the process is kept well
pub add_kept : (schema : Schema) (kept : Durable) (queries now : List StoredQuery) (r : Result (Unit {0}) StoredFault) → GivesBut NoMemory (λ _. now) r (created kept.stored queries) → OnErr r (now ≡ kept.stored) → IsKept schema kept
    → IsKept schema (with_queries kept queries) → IsKept schema (record kept { stored = now })
add_kept schema kept queries now (Ok _) gives same is well = subst (λ (l : List StoredQuery). IsKept schema (record kept { stored = l })) (sym (adds kept.stored queries now (Ok tt) gives refl)) well
add_kept schema kept queries now (Err fault) gives same is well = subst (λ (l : List StoredQuery). IsKept schema (record kept { stored = l })) (sym same) is

-- ---- openings

-- a machine with other counters, which an opening is about to begin with
pub begins : (machine : Machine) (schema : Schema) (before : State) (opening : ℕ) (counters : List ℕ) (table : Locks) → record { schema = schema; state = before } ≡ machine → IsRunning schema before table
    → IsKept machine.schema (record (durable machine.state) { opening = opening; counters = counters }) → IsRunning schema (record before { counters = counters }) table
begins machine schema before opening counters table view running is =
    let well : IsKept schema (record (durable before) { opening = opening; counters = counters }) = subst (λ (m : Machine). IsKept m.schema (record (durable m.state) { opening = opening; counters = counters })) (sym view) is in
    record {
      kept = record { order = well.order; fitting = well.fitting; given = well.given; counters = well.counters; stored = well.stored; different = well.different; made = well.made };
      opening = running.opening;
      given = running.given;
      later = running.later;
      last = running.last;
    }

-- what it begins with
pub begun_is : (machine : Machine) (schema : Schema) (before : State) (opening : ℕ) (counters : List ℕ) → record { schema = schema; state = before } ≡ machine
    → opened (durable (record before { counters = counters })) opening ≡ opened (record (durable machine.state) { opening = opening; counters = counters }) opening
begun_is machine schema before opening counters view = ap (λ (m : Machine). opened (record (durable m.state) { counters = counters }) opening) view

-- ---- transactions

-- the change of a plan
pub planned_rows : (r : Result Planning Refusal) (planned : Planned) (made : Option Change) → if_planned r ≡ Ok planned → ((parts : List Part) → planned.change ≡ Rows parts → made ≡ rows_of parts) → made ≡ rows_if r
planned_rows (Err refusal) planned made is h = absurd cc
planned_rows (Ok plan) planned made is h = let told : planned_by plan ≡ planned = cc in h plan.parts (sym (ap (λ (p : Planned). p.change) told))

-- why there is none
pub plan_said : (fault : PlanFault) (r : Result Planning Refusal) → (let s : Result Planned PlanFault = Err fault in Answers s (if_planned r)) → IsSaid fault r
plan_said (Refused refusal) (Ok plan) is = absurd cc
plan_said (Refused refusal) (Err other) is = cc
plan_said WantOfMemory r is = tt
