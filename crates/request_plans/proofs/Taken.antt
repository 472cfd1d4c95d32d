-- Requests that take locks and renew them are planned as their steps are taken.
use Rattle.std.proofs.Common.{◌≡◌, ℕ, ◌+◌, ◌<◌, Bool, true, false, cond, List, [], ◌∷◌, length, filter, Option, Some, None, Result, Ok, Err, refl, sym, ap, ◌∙◌, subst, arith}
use Rattle.std.specs.Prelude.{not, is_some, ◌==◌}
use Rattle.std.proofs.lemmas.List.Elements.{All-nil, All-cons}
use Rattle.wfs_ends.specs.Read.{◌>>=◌}
use Rattle.feature_values.specs.declared.feature.Feature.{Feature}
use Rattle.feature_values.specs.declared.feature.Rid.{Rid}
use Rattle.feature_values.specs.declared.schema.Schema.{Schema}
use Rattle.query_core.specs.Selecting.{held}
use Rattle.query_core.specs.Paging.{page_of}
use Rattle.lock_table.specs.declared.id.LockId.{LockId}
use Rattle.lock_table.specs.Lock.{Lock as HeldLock}
use Rattle.lock_table.specs.Held.{holder, first_held, features_of}
use Rattle.lock_table.specs.Steps.{renewed}
use Rattle.lock_table.proofs.Callers.{none_is_held}
use Rattle.wfs_model.specs.declared.asked.Asked.{Asked}
use Rattle.wfs_model.specs.declared.asked.Present.{Present}
use Rattle.wfs_model.specs.declared.reply.Refusal.{Refusal}
use Rattle.wfs_model.specs.declared.reply.Reply.TheVariants.{Collection, Locked}
use Rattle.wfs_model.specs.declared.request.Request.TheVariants.{GetLocked, Lock, Renew}
use Rattle.wfs_model.specs.declared.request.Take.{Take}
use Rattle.wfs_model.specs.declared.request.Take.TheVariants.{AllOrNone, Free}
use Rattle.wfs_model.specs.Refusals.{or_refused}
use Rattle.wfs_model.specs.Locking.{Division, named, divided, all_taken, is_held, lock_on, locked}
use Rattle.wfs_model.specs.Played.{change_of}
use Rattle.wfs_model.specs.State.{State}
use Rattle.wfs_model.specs.Step.{lock_taken, page_locked, lock_renewed, settled, step}
use Rattle.stored_queries.specs.Meant.{asked_selected}
use Rattle.transaction_core.specs.declared.fault.PlanFault.{PlanFault}
use Rattle.transaction_core.specs.declared.fault.PlanFault.TheVariants.{Refused, OutOfMemory}
use Rattle.transaction_core.specs.Plan.{Answers}
use Rattle.request_plans.specs.declared.dividing.Divided.{Divided}
use Rattle.request_plans.specs.declared.plan.LockWork.{LockWork}
use Rattle.request_plans.specs.declared.plan.LockWork.TheVariants.{Renew as NewDeadline}
use Rattle.request_plans.specs.declared.plan.Plan.{Plan}
use Rattle.request_plans.specs.Carried.{locks_after, given_after, AreFree, IsDoable}
use Rattle.request_plans.specs.Coming.{Comes, ComesTo}
use Rattle.request_plans.specs.Divided.{Divides, work_on}
use Rattle.request_plans.proofs.Leaving.{comes_done, stays_refused}
use Rattle.request_plans.proofs.Named.{named_is_live}
use Rattle.request_plans.proofs.Selected.{lock_done, taken_is, taken_by, page_done, page_is, page_by}

-- ---- what a lock takes is free

is_free : (found : Option ℕ) (b : Bool) → is_some found ≡ b → not b ≡ true → found ≡ None
is_free None b is h = refl
is_free (Some number) true is h = absurd (let bad = h in cc)
is_free (Some number) false is h = absurd (let bad = is in cc)

free_at : (b : Bool) (locks : List HeldLock) (moment : ℕ) (id : Rid) (found : List Rid) → (b ≡ true → holder locks moment id ≡ None) → AreFree locks moment found → AreFree locks moment (cond b (id ∷ found) found)
free_at true locks moment id found here free = All-cons (λ (i : Rid). holder locks moment i ≡ None) id found (here refl) free
free_at false locks moment id found here free = free

free_filter : (locks : List HeldLock) (moment : ℕ) (ids : List Rid) → AreFree locks moment (filter (λ id. not (is_held locks moment id)) ids)
free_filter locks moment [] = All-nil (λ (i : Rid). holder locks moment i ≡ None)
free_filter locks moment (id ∷ ids) =
    free_at (not (is_held locks moment id)) locks moment id (filter (λ id. not (is_held locks moment id)) ids) (is_free (holder locks moment id) (is_held locks moment id) refl) (free_filter locks moment ids)

all_free : (schema : Schema) (locks : List HeldLock) (moment : ℕ) (ids : List Rid) (first : Option Rid) (division : Division) → first_held locks moment ids ≡ first → all_taken schema ids first ≡ Ok division → AreFree locks moment division.taken
all_free schema locks moment ids None division is e =
    let same : ids ≡ division.taken = ap (λ (d : Division). d.taken) (let whole : record { taken = ids; missed = [] } ≡ division = cc in whole) in
    subst (AreFree locks moment) same (none_is_held locks moment ids is)
all_free schema locks moment ids (Some feature) division is e = absurd cc

taken_is_free : (schema : Schema) (locks : List HeldLock) (moment : ℕ) (take : Take) (ids : List Rid) (division : Division) → divided schema locks moment take ids ≡ Ok division → AreFree locks moment division.taken
unfolding divided
taken_is_free schema locks moment AllOrNone ids division e = all_free schema locks moment ids (first_held locks moment ids) division refl e
taken_is_free schema locks moment Free ids division e =
    let whole : Division = record { taken = filter (λ id. not (is_held locks moment id)) ids; missed = filter (is_held locks moment) ids } in
    let same : whole ≡ division = cc in
    subst (λ (d : Division). AreFree locks moment d.taken) same (free_filter locks moment ids)

-- ---- the lock that is granted

locks_at : (b : Bool) (state : State) (moment period : ℕ) (taken : List Rid) → (length taken == 0) ≡ b → locks_after (work_on taken period) state.given moment state.locks ≡ (locked state moment period taken).locks
unfolding locks_after locked
locks_at true state moment period taken is = rw is refl
locks_at false state moment period taken is = rw is refl

given_at : (b : Bool) (state : State) (moment period : ℕ) (taken : List Rid) → (length taken == 0) ≡ b → given_after (work_on taken period) state.given ≡ (locked state moment period taken).given
unfolding locked
given_at true state moment period taken is = rw is refl
given_at false state moment period taken is = rw is refl

features_at : (b : Bool) (state : State) (moment period : ℕ) (taken : List Rid) → (length taken == 0) ≡ b → (locked state moment period taken).features ≡ state.features
unfolding locked
features_at true state moment period taken is = rw is refl
features_at false state moment period taken is = rw is refl

stands : (state : State) (moment period : ℕ) (taken : List Rid) → length (locked state moment period taken).features + 0 ≡ length state.features + 0
stands state moment period taken = ap (λ (fs : List Feature). length fs + 0) (features_at (length taken == 0) state moment period taken refl)

doable_at : (b : Bool) (state : State) (moment period : ℕ) (taken : List Rid) → (length taken == 0) ≡ b → AreFree state.locks moment taken → (0 < length taken → state.given < 18_446_744_073_709_551_615) → IsDoable (work_on taken period) state.given moment state.locks
doable_at true state moment period taken is free numbers = rw is tt
doable_at false state moment period taken is free numbers = let some : 0 < length taken = grind (arith, is) in rw is (record { some = some; free = free; numbers = numbers some })

-- what a lock takes, how it is named, and the work
pub record Takes (schema : Schema) (state : State) (moment period : ℕ) (take : Take) (ids : List Rid) (division : Division) (lock : Option LockId) (work : LockWork) : Type 0 where
  pub are : divided schema state.locks moment take ids ≡ Ok division
  pub named : lock ≡ lock_on state division.taken
  pub granted : work ≡ work_on division.taken period
  pub numbers : 0 < length division.taken → state.given < 18_446_744_073_709_551_615

doable : (schema : Schema) (state : State) (moment period : ℕ) (take : Take) (ids : List Rid) (division : Division) (lock : Option LockId) (work : LockWork) → Takes schema state moment period take ids division lock work → IsDoable work state.given moment state.locks
doable schema state moment period take ids division lock work takes =
    subst (λ (w : LockWork). IsDoable w state.given moment state.locks) (sym takes.granted)
    (doable_at (length division.taken == 0) state moment period division.taken refl (taken_is_free schema state.locks moment take ids division takes.are) takes.numbers)

-- ---- a lock on what is asked

pub lock_comes : (schema : Schema) (state : State) (moment : ℕ) (asked : List Asked) (take : Take) (period : ℕ) (ids : List Rid) (division : Division) (lock : Option LockId) (work : LockWork)
    → or_refused (asked_selected schema state.stored state.features asked) ≡ Ok ids → Takes schema state moment period take ids division lock work
    → Comes schema state moment (Lock asked take period) (record { reply = Locked lock division.taken division.missed; change = None; lock = work })
unfolding step change_of
lock_comes schema state moment asked take period ids division lock work selected takes =
    let done : lock_taken schema state moment asked take period ≡ lock_done state moment period division =
    taken_by schema state moment asked take period ids selected ∙ ap (λ r. r >>= lock_done state moment period) takes.are in
    comes_done schema state moment (Lock asked take period) (lock_taken schema state moment asked take period) (Locked (lock_on state division.taken) division.taken division.missed) (locked state moment period division.taken)
    (record { reply = Locked lock division.taken division.missed; change = None; lock = work }) refl refl tt done
    (ap (λ l. Locked l division.taken division.missed) takes.named)
    (ap (λ (w : LockWork). locks_after w state.given moment state.locks) takes.granted ∙ locks_at (length division.taken == 0) state moment period division.taken refl)
    (ap (λ (w : LockWork). given_after w state.given) takes.granted ∙ given_at (length division.taken == 0) state moment period division.taken refl)
    (doable schema state moment period take ids division lock work takes) (stands state moment period division.taken)

-- what is asked is not selected
pub lock_not_selected : (schema : Schema) (state : State) (moment : ℕ) (asked : List Asked) (take : Take) (period : ℕ) (fault : PlanFault)
    → (let s : Result (List Rid) PlanFault = Err fault in Answers s (or_refused (asked_selected schema state.stored state.features asked))) → (let s : Result Plan PlanFault = Err fault in ComesTo schema state moment (Lock asked take period) s)
unfolding step change_of
lock_not_selected schema state moment asked take period fault is =
    stays_refused schema state moment (Lock asked take period) (or_refused (asked_selected schema state.stored state.features asked)) _ fault (ap (settled state moment) (taken_is schema state moment asked take period)) refl is

-- a division that is refused
division_said : (fault : PlanFault) (said : Result Division Refusal) → (let s : Result Divided PlanFault = Err fault in Divides s said) → (let s : Result Division PlanFault = Err fault in Answers s said)
division_said (Refused refusal) said is = is
division_said OutOfMemory said is = tt

pub lock_not_free : (schema : Schema) (state : State) (moment : ℕ) (asked : List Asked) (take : Take) (period : ℕ) (ids : List Rid) (fault : PlanFault)
    → or_refused (asked_selected schema state.stored state.features asked) ≡ Ok ids → (let s : Result Divided PlanFault = Err fault in Divides s (divided schema state.locks moment take ids)) → (let s : Result Plan PlanFault = Err fault in ComesTo schema state moment (Lock asked take period) s)
unfolding step change_of
lock_not_free schema state moment asked take period ids fault selected is =
    stays_refused schema state moment (Lock asked take period) (divided schema state.locks moment take ids) (lock_done state moment period) fault
    (ap (settled state moment) (taken_by schema state moment asked take period ids selected)) refl (division_said fault (divided schema state.locks moment take ids) is)

-- ---- a lock on a page

pub page_comes : (schema : Schema) (state : State) (moment : ℕ) (present : Present) (asked : List Asked) (take : Take) (period : ℕ) (ids : List Rid) (division : Division) (lock : Option LockId) (work : LockWork) (features : List Feature) (matched : ℕ)
    → or_refused (asked_selected schema state.stored state.features asked) ≡ Ok ids → Takes schema state moment period take (page_of present.start present.count ids) division lock work → features ≡ held state.features division.taken → matched ≡ length ids
    → Comes schema state moment (GetLocked present asked take period) (record { reply = Collection moment matched features lock None None; change = None; lock = work })
unfolding step change_of
page_comes schema state moment present asked take period ids division lock work features matched selected takes shown counted =
    let done : page_locked schema state moment present asked take period ≡ page_done state moment period ids division =
    page_by schema state moment present asked take period ids selected ∙ ap (λ r. r >>= page_done state moment period ids) takes.are in
    comes_done schema state moment (GetLocked present asked take period) (page_locked schema state moment present asked take period)
    (Collection moment (length ids) (held state.features division.taken) (lock_on state division.taken) None None) (locked state moment period division.taken)
    (record { reply = Collection moment matched features lock None None; change = None; lock = work }) refl refl tt done
    (rw (takes.named, shown, counted) refl)
    (ap (λ (w : LockWork). locks_after w state.given moment state.locks) takes.granted ∙ locks_at (length division.taken == 0) state moment period division.taken refl)
    (ap (λ (w : LockWork). given_after w state.given) takes.granted ∙ given_at (length division.taken == 0) state moment period division.taken refl)
    (doable schema state moment period take (page_of present.start present.count ids) division lock work takes) (stands state moment period division.taken)

pub page_not_selected : (schema : Schema) (state : State) (moment : ℕ) (present : Present) (asked : List Asked) (take : Take) (period : ℕ) (fault : PlanFault)
    → (let s : Result (List Rid) PlanFault = Err fault in Answers s (or_refused (asked_selected schema state.stored state.features asked))) → (let s : Result Plan PlanFault = Err fault in ComesTo schema state moment (GetLocked present asked take period) s)
unfolding step change_of
page_not_selected schema state moment present asked take period fault is =
    stays_refused schema state moment (GetLocked present asked take period) (or_refused (asked_selected schema state.stored state.features asked)) _ fault (ap (settled state moment) (page_is schema state moment present asked take period)) refl is

pub page_not_free : (schema : Schema) (state : State) (moment : ℕ) (present : Present) (asked : List Asked) (take : Take) (period : ℕ) (ids : List Rid) (fault : PlanFault)
    → or_refused (asked_selected schema state.stored state.features asked) ≡ Ok ids → (let s : Result Divided PlanFault = Err fault in Divides s (divided schema state.locks moment take (page_of present.start present.count ids))) → (let s : Result Plan PlanFault = Err fault in ComesTo schema state moment (GetLocked present asked take period) s)
unfolding step change_of
page_not_free schema state moment present asked take period ids fault selected is =
    stays_refused schema state moment (GetLocked present asked take period) (divided schema state.locks moment take (page_of present.start present.count ids)) (page_done state moment period ids) fault
    (ap (settled state moment) (page_by schema state moment present asked take period ids selected)) refl (division_said fault (divided schema state.locks moment take (page_of present.start present.count ids)) is)

-- ---- a new deadline

renewed_is : (state : State) (moment : ℕ) (id : LockId) (period : Option ℕ) (number : ℕ) → named state moment id ≡ Ok number
    → lock_renewed state moment id period ≡ Ok (Locked (Some id) (features_of state.locks number) [], record state { locks = renewed moment number period state.locks })
unfolding lock_renewed
renewed_is state moment id period number is = rw is refl

pub renewal_comes : (schema : Schema) (state : State) (moment : ℕ) (id : LockId) (period : Option ℕ) (number : ℕ) (taken none : List Rid) → named state moment id ≡ Ok number → taken ≡ features_of state.locks number → none ≡ []
    → Comes schema state moment (Renew id period) (record { reply = Locked (Some id) taken none; change = None; lock = NewDeadline number period })
unfolding step change_of locks_after
renewal_comes schema state moment id period number taken none is features nothing =
    comes_done schema state moment (Renew id period) (lock_renewed state moment id period) (Locked (Some id) (features_of state.locks number) []) (record state { locks = renewed moment number period state.locks })
    (record { reply = Locked (Some id) taken none; change = None; lock = NewDeadline number period }) refl refl tt (renewed_is state moment id period number is)
    (rw (features, nothing) refl) refl refl (named_is_live state moment id number is) refl

pub not_named : (schema : Schema) (state : State) (moment : ℕ) (id : LockId) (period : Option ℕ) (fault : PlanFault)
    → (let s : Result ℕ PlanFault = Err fault in Answers s (named state moment id)) → (let s : Result Plan PlanFault = Err fault in ComesTo schema state moment (Renew id period) s)
unfolding step change_of lock_renewed
not_named schema state moment id period fault is = stays_refused schema state moment (Renew id period) (named state moment id) _ fault refl refl is
