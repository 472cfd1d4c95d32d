-- What requests for locks come to, by the features that are selected.
use Rattle.std.proofs.Common.{◌≡◌, ℕ, List, length, None, Result, Ok, Err, refl, ◌∙◌}
use Rattle.wfs_ends.specs.Read.{◌>>=◌}
use Rattle.feature_values.specs.declared.feature.Rid.{Rid}
use Rattle.feature_values.specs.declared.schema.Schema.{Schema}
use Rattle.fes_filter.specs.declared.query.Query.{Query}
use Rattle.query_core.specs.Selecting.{all_selected, held}
use Rattle.query_core.specs.Paging.{page_of}
use Rattle.wfs_model.specs.declared.asked.Asked.{Asked}
use Rattle.wfs_model.specs.declared.asked.Present.{Present}
use Rattle.wfs_model.specs.declared.fault.StoredFault.{StoredFault}
use Rattle.wfs_model.specs.declared.reply.Refusal.{Refusal}
use Rattle.wfs_model.specs.declared.reply.Reply.TheVariants.{Collection, Locked}
use Rattle.wfs_model.specs.declared.request.Take.{Take}
use Rattle.wfs_model.specs.Refusals.{or_refused}
use Rattle.wfs_model.specs.Expand.{all_expanded}
use Rattle.wfs_model.specs.Locking.{Division, divided, lock_on, locked}
use Rattle.wfs_model.specs.State.{State}
use Rattle.wfs_model.specs.Step.{Done, lock_taken, page_locked}
use Rattle.stored_queries.specs.Meant.{asked_selected}

-- what is selected is refused as the queries are
selected_then : {B : Type 0} (r : Result (List Query) StoredFault) (f : List Query → List Rid) (more : List Rid → Result B Refusal) → (or_refused r >>= λ queries. more (f queries)) ≡ (or_refused (r >>= λ queries. Ok (f queries)) >>= more)
selected_then (Ok queries) f more = refl
selected_then (Err fault) f more = refl

abbrev pub lock_done : State → ℕ → ℕ → Division → Result Done Refusal
lock_done state moment period division = Ok (Locked (lock_on state division.taken) division.taken division.missed, locked state moment period division.taken)

pub taken_is : (schema : Schema) (state : State) (moment : ℕ) (asked : List Asked) (take : Take) (period : ℕ)
    → lock_taken schema state moment asked take period ≡ (or_refused (asked_selected schema state.stored state.features asked) >>= λ ids. divided schema state.locks moment take ids >>= lock_done state moment period)
unfolding lock_taken asked_selected
taken_is schema state moment asked take period =
    selected_then (all_expanded schema state.stored asked) (all_selected state.features) (λ ids. divided schema state.locks moment take ids >>= lock_done state moment period)

abbrev pub page_done : State → ℕ → ℕ → List Rid → Division → Result Done Refusal
page_done state moment period ids division =
    Ok (Collection moment (length ids) (held state.features division.taken) (lock_on state division.taken) None None, locked state moment period division.taken)

pub page_is : (schema : Schema) (state : State) (moment : ℕ) (present : Present) (asked : List Asked) (take : Take) (period : ℕ)
    → page_locked schema state moment present asked take period ≡ (or_refused (asked_selected schema state.stored state.features asked) >>= λ ids. divided schema state.locks moment take (page_of present.start present.count ids) >>= page_done state moment period ids)
unfolding page_locked asked_selected
page_is schema state moment present asked take period =
    selected_then (all_expanded schema state.stored asked) (all_selected state.features) (λ ids. divided schema state.locks moment take (page_of present.start present.count ids) >>= page_done state moment period ids)

-- ---- where the features are selected

pub taken_by : (schema : Schema) (state : State) (moment : ℕ) (asked : List Asked) (take : Take) (period : ℕ) (ids : List Rid) → or_refused (asked_selected schema state.stored state.features asked) ≡ Ok ids
    → lock_taken schema state moment asked take period ≡ (divided schema state.locks moment take ids >>= lock_done state moment period)
taken_by schema state moment asked take period ids is = taken_is schema state moment asked take period ∙ rw is refl

pub page_by : (schema : Schema) (state : State) (moment : ℕ) (present : Present) (asked : List Asked) (take : Take) (period : ℕ) (ids : List Rid) → or_refused (asked_selected schema state.stored state.features asked) ≡ Ok ids
    → page_locked schema state moment present asked take period ≡ (divided schema state.locks moment take (page_of present.start present.count ids) >>= page_done state moment period ids)
page_by schema state moment present asked take period ids is = page_is schema state moment present asked take period ∙ rw is refl
