-- What requests for locks come to, in the parts in which they are carried out.
use Rattle.std.proofs.Common.{◌≡◌, ℕ, Bool, true, false, cond, List, [], ◌∷◌, length, filter, Option, Some, None, Result, Ok, Err, refl, ap, ◌∙◌, subst}
use Rattle.std.specs.Prelude.{not, is_some}
use Rattle.std.proofs.lemmas.List.Elements.{All-nil, All-cons}
use Rattle.wfs_ends.specs.Read.{◌>>=◌}
use Rattle.feature_values.specs.declared.feature.Rid.{Rid}
use Rattle.feature_values.specs.declared.schema.Schema.{Schema}
use Rattle.fes_filter.specs.declared.query.Query.{Query}
use Rattle.query_core.specs.Selecting.{all_selected, held}
use Rattle.query_core.specs.Paging.{page_of}
use Rattle.lock_table.specs.declared.id.LockId.{LockId}
use Rattle.lock_table.specs.Lock.{Lock}
use Rattle.lock_table.specs.Held.{holder, first_held, features_of}
use Rattle.lock_table.specs.Steps.{renewed}
use Rattle.lock_table.proofs.Callers.{none_is_held}
use Rattle.wfs_model.specs.declared.asked.Asked.{Asked}
use Rattle.wfs_model.specs.declared.asked.Present.{Present}
use Rattle.wfs_model.specs.declared.fault.StoredFault.{StoredFault}
use Rattle.wfs_model.specs.declared.reply.Refusal.{Refusal}
use Rattle.feature_values.specs.declared.feature.Feature.{Feature}
use Rattle.wfs_model.specs.declared.reply.Reply.{Reply}
use Rattle.wfs_model.specs.declared.reply.Reply.TheVariants.{Collection, Locked}
use Rattle.wfs_model.specs.declared.request.Take.{Take}
use Rattle.wfs_model.specs.declared.request.Take.TheVariants.{AllOrNone, Free}
use Rattle.wfs_model.specs.Refusals.{or_refused}
use Rattle.wfs_model.specs.Expand.{all_expanded}
use Rattle.wfs_model.specs.Locking.{Division, named, divided, all_taken, is_held, lock_on, locked}
use Rattle.wfs_model.specs.State.{State, Machine}
use Rattle.wfs_model.specs.Step.{Done, lock_taken, page_locked, lock_renewed}
use Rattle.stored_queries.specs.Meant.{asked_selected}
use Rattle.wfs_machine.specs.Told.{AreFree, Settles}
use Rattle.wfs_machine.proofs.Telling.{settles_ok}

-- what is selected is refused as the queries are
selected_then : {B : Type 0} (r : Result (List Query) StoredFault) (f : List Query → List Rid) (more : List Rid → Result B Refusal) → (or_refused r >>= λ queries. more (f queries)) ≡ (or_refused (r >>= λ queries. Ok (f queries)) >>= more)
selected_then (Ok queries) f more = refl
selected_then (Err fault) f more = refl

abbrev pub lock_done : State → ℕ → ℕ → Division → Result Done Refusal
lock_done state moment period division = Ok (Locked (lock_on state division.taken) division.taken division.missed, locked state moment period division.taken)

pub taken_is : (schema : Schema) (state : State) (moment : ℕ) (asked : List Asked) (take : Take) (period : ℕ)
    → lock_taken schema state moment asked take period ≡ (or_refused (asked_selected schema state.stored state.features asked) >>= λ ids. divided schema state.locks moment take ids >>= lock_done state moment period)
unfolding lock_taken asked_selected
taken_is schema state moment asked take period =
    selected_then (all_expanded schema state.stored asked) (all_selected state.features) (λ ids. divided schema state.locks moment take ids >>= lock_done state moment period)

abbrev pub page_done : State → ℕ → ℕ → List Rid → Division → Result Done Refusal
page_done state moment period ids division =
    Ok (Collection moment (length ids) (held state.features division.taken) (lock_on state division.taken) None None, locked state moment period division.taken)

pub page_is : (schema : Schema) (state : State) (moment : ℕ) (present : Present) (asked : List Asked) (take : Take) (period : ℕ)
    → page_locked schema state moment present asked take period ≡ (or_refused (asked_selected schema state.stored state.features asked) >>= λ ids. divided schema state.locks moment take (page_of present.start present.count ids) >>= page_done state moment period ids)
unfolding page_locked asked_selected
page_is schema state moment present asked take period =
    selected_then (all_expanded schema state.stored asked) (all_selected state.features) (λ ids. divided schema state.locks moment take (page_of present.start present.count ids) >>= page_done state moment period ids)

pub renewed_is : (state : State) (moment : ℕ) (id : LockId) (period : Option ℕ) (number : ℕ) (taken none : List Rid) → named state moment id ≡ Ok number → taken ≡ features_of state.locks number → none ≡ []
    → lock_renewed state moment id period ≡ Ok (Locked (Some id) taken none, record state { locks = renewed moment number period state.locks })
unfolding lock_renewed
renewed_is state moment id period number taken none is features nothing = rw (is, features, nothing) refl

-- ---- steps that take a lock

pub taken_by : (schema : Schema) (state : State) (moment : ℕ) (asked : List Asked) (take : Take) (period : ℕ) (ids : List Rid) → or_refused (asked_selected schema state.stored state.features asked) ≡ Ok ids
    → lock_taken schema state moment asked take period ≡ (divided schema state.locks moment take ids >>= lock_done state moment period)
taken_by schema state moment asked take period ids is = taken_is schema state moment asked take period ∙ rw is refl

pub page_by : (schema : Schema) (state : State) (moment : ℕ) (present : Present) (asked : List Asked) (take : Take) (period : ℕ) (ids : List Rid) → or_refused (asked_selected schema state.stored state.features asked) ≡ Ok ids
    → page_locked schema state moment present asked take period ≡ (divided schema state.locks moment take (page_of present.start present.count ids) >>= page_done state moment period ids)
page_by schema state moment present asked take period ids is = page_is schema state moment present asked take period ∙ rw is refl

pub lock_settles : {E : Type 0} (before now : Machine) (moment : ℕ) (asked : List Asked) (take : Take) (period : ℕ) (ids : List Rid) (division : Division) (lock : Option LockId)
    → or_refused (asked_selected before.schema before.state.stored before.state.features asked) ≡ Ok ids → divided before.schema before.state.locks moment take ids ≡ Ok division → lock ≡ lock_on before.state division.taken
    → now.state ≡ record (locked before.state moment period division.taken) { last = moment } → now.schema ≡ before.schema
    → (let r : Result Reply E = Ok (Locked lock division.taken division.missed) in Settles before moment (lock_taken before.schema before.state moment asked take period) r now)
lock_settles before now moment asked take period ids division lock first second its state schema =
    settles_ok before now moment _ _ (locked before.state moment period division.taken) (taken_by before.schema before.state moment asked take period ids first ∙ rw (second, its) refl) state schema

pub page_settles : {E : Type 0} (before now : Machine) (moment : ℕ) (present : Present) (asked : List Asked) (take : Take) (period : ℕ) (ids : List Rid) (division : Division) (lock : Option LockId) (features : List Feature) (matched : ℕ)
    → or_refused (asked_selected before.schema before.state.stored before.state.features asked) ≡ Ok ids → divided before.schema before.state.locks moment take (page_of present.start present.count ids) ≡ Ok division
    → lock ≡ lock_on before.state division.taken → features ≡ held before.state.features division.taken → matched ≡ length ids
    → now.state ≡ record (locked before.state moment period division.taken) { last = moment } → now.schema ≡ before.schema
    → (let r : Result Reply E = Ok (Collection moment matched features lock None None) in Settles before moment (page_locked before.schema before.state moment present asked take period) r now)
page_settles before now moment present asked take period ids division lock features matched first second its shown count state schema =
    settles_ok before now moment _ _ (locked before.state moment period division.taken) (page_by before.schema before.state moment present asked take period ids first ∙ rw (second, its, shown, count) refl) state schema

-- ---- what a lock takes is free

is_free : (found : Option ℕ) (b : Bool) → is_some found ≡ b → not b ≡ true → found ≡ None
is_free None b is h = refl
is_free (Some number) true is h = absurd (let bad = h in cc)
is_free (Some number) false is h = absurd (let bad = is in cc)

free_at : (b : Bool) (locks : List Lock) (moment : ℕ) (id : Rid) (found : List Rid) → (b ≡ true → holder locks moment id ≡ None) → AreFree locks moment found → AreFree locks moment (cond b (id ∷ found) found)
free_at true locks moment id found here free = All-cons (λ (i : Rid). holder locks moment i ≡ None) id found (here refl) free
free_at false locks moment id found here free = free

free_filter : (locks : List Lock) (moment : ℕ) (ids : List Rid) → AreFree locks moment (filter (λ id. not (is_held locks moment id)) ids)
free_filter locks moment [] = All-nil (λ (i : Rid). holder locks moment i ≡ None)
free_filter locks moment (id ∷ ids) =
    free_at (not (is_held locks moment id)) locks moment id (filter (λ id. not (is_held locks moment id)) ids) (is_free (holder locks moment id) (is_held locks moment id) refl) (free_filter locks moment ids)

all_free : (schema : Schema) (locks : List Lock) (moment : ℕ) (ids : List Rid) (first : Option Rid) (division : Division) → first_held locks moment ids ≡ first → all_taken schema ids first ≡ Ok division → AreFree locks moment division.taken
all_free schema locks moment ids None division is e =
    let same : ids ≡ division.taken = ap (λ (d : Division). d.taken) (let whole : record { taken = ids; missed = [] } ≡ division = cc in whole) in
    subst (AreFree locks moment) same (none_is_held locks moment ids is)
all_free schema locks moment ids (Some feature) division is e = absurd cc

pub taken_is_free : (schema : Schema) (locks : List Lock) (moment : ℕ) (take : Take) (ids : List Rid) (division : Division) → divided schema locks moment take ids ≡ Ok division → AreFree locks moment division.taken
unfolding divided
taken_is_free schema locks moment AllOrNone ids division e = all_free schema locks moment ids (first_held locks moment ids) division refl e
taken_is_free schema locks moment Free ids division e =
    let whole : Division = record { taken = filter (λ id. not (is_held locks moment id)) ids; missed = filter (is_held locks moment) ids } in
    let same : whole ≡ division = cc in
    subst (λ (d : Division). AreFree locks moment d.taken) same (free_filter locks moment ids)
