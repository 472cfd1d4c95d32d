-- What an action adds to a plan, in one.
use Rattle.std.proofs.Common.{◌≡◌, ℕ, Bool, true, false, List, [], ◌∷◌, ◌++◌, length, map, filter, Option, Result, Ok, Err, refl, sym, ap, ◌∙◌, append_assoc, length-set}
use Rattle.std.specs.Prelude.{flat_map, if◌then◌else◌}
use Rattle.std.specs.List.{fold}
use Rattle.wfs_ends.specs.Read.{◌>>=◌, each}
use Rattle.feature_values.specs.declared.feature.Feature.{Feature}
use Rattle.feature_values.specs.declared.feature.Rid.{Rid}
use Rattle.fes_filter.specs.View.{IsInOrder}
use Rattle.query_core.specs.Selecting.{ids_of}
use Rattle.wfs_model.specs.declared.action.Action.{Action}
use Rattle.wfs_model.specs.declared.action.Action.TheVariants.{Insert, Update, Replace, Delete}
use Rattle.wfs_model.specs.declared.change.Part.{Part}
use Rattle.wfs_model.specs.declared.change.Part.TheVariants.{Put}
use Rattle.wfs_model.specs.declared.reply.Refusal.{Refusal}
use Rattle.wfs_model.specs.Acts.{Acting, begun, selects, left_of, numbered, inserted, noted, acted, touched_by, are_too_many, parts_in, parts_of}
use Rattle.wfs_model.specs.Refusals.{not_one}
use Rattle.wfs_model.specs.Plans.{Planning, permitted, planned, planned_all}
use Rattle.transaction_core.specs.declared.fault.PlanFault.{PlanFault}
use Rattle.transaction_core.specs.declared.fault.PlanFault.TheVariants.{Refused, OutOfMemory}
use Rattle.transaction_core.specs.declared.guard.Guard.{Guard}
use Rattle.transaction_core.specs.declared.planned.Planned.{Planned}
use Rattle.transaction_core.specs.Plan.{Answers, IsRefusal, if_planned}
use Rattle.transaction_core.specs.Planning.{Turning, came, turned, worked, worked_or_not, may_of, ComesTo}
use Rattle.transaction_core.proofs.Aims.{none_selected}
use Rattle.wfs_model.proofs.Middle.{append_none}
use Rattle.transaction_core.proofs.Turning.{part, turning, turned_all}

-- what says which features may be touched
abbrev pub May : Type 0
May = List Rid → Result (Unit {0}) Refusal

abbrev pub plan_at : Acting → List Part → List Rid → Planning
plan_at at parts touched = record { at = at; parts = parts; touched = touched }

-- a transaction may touch nothing
pub none_withheld : (guard : Guard) → may_of guard [] ≡ Ok tt
unfolding permitted
none_withheld guard = refl

-- ---- an Insert

came_all : (handle : Option (List ℕ)) (plan : Planning) (fs : List Feature) → fold (came handle) plan fs ≡ plan_at (fold (inserted handle) plan.at fs) (plan.parts ++ parts_in handle plan.at fs) plan.touched
unfolding came parts_in
came_all handle plan [] = ap (λ parts. plan_at plan.at parts plan.touched) (sym (append_none plan.parts))
came_all handle plan (f ∷ fs) =
    came_all handle (came handle plan f) fs
    ∙ ap (λ parts. plan_at (fold (inserted handle) (inserted handle plan.at f) fs) parts plan.touched) (append_assoc plan.parts (Put (numbered plan.at.counters f) ∷ []) (parts_in handle (inserted handle plan.at f) fs))

none_touched : (handle : Option (List ℕ)) (features : List Feature) (touched : List Rid) (fs : List Feature) → touched ++ ids_of (filter (selects (Insert handle features)) fs) ≡ touched
none_touched handle features touched fs = ap (λ l. touched ++ ids_of l) (none_selected handle features fs) ∙ append_none touched

-- an Insert touches no feature, which it always may
free : (may : May) (handle : Option (List ℕ)) (features fs : List Feature) (next : Result Planning Refusal) → may [] ≡ Ok tt → (may (ids_of (filter (selects (Insert handle features)) fs)) >>= λ _. next) ≡ next
free may handle features fs next none = ap (λ l. may (ids_of l) >>= λ _. next) (none_selected handle features fs) ∙ ap (λ (r : Result (Unit {0}) Refusal). r >>= λ _. next) none

pub planned_insert : (may : May) (plan : Planning) (handle : Option (List ℕ)) (features : List Feature) → may [] ≡ Ok tt → planned may plan (Insert handle features) ≡ Ok (fold (came handle) plan features)
unfolding planned acted parts_of
planned_insert may plan handle features none =
    free may handle features plan.at.features _ none
    ∙ ap (λ touched. Ok (plan_at (fold (inserted handle) plan.at features) (plan.parts ++ parts_in handle plan.at features) touched)) (none_touched handle features plan.touched plan.at.features)
    ∙ ap (λ p. Ok p) (sym (came_all handle plan features))

-- ---- any other

then_or_not : {A B : Type 0} (b : Bool) (refusal : Refusal) (x : A) (f : A → Result B Refusal) → ((let r : Result A Refusal = if b then Err refusal else Ok x in r) >>= f) ≡ (if b then Err refusal else f x)
then_or_not true refusal x f = refl
then_or_not false refusal x f = refl

pub planned_other : (may : May) (plan : Planning) (action : Action) → ((handle : Option (List ℕ)) (features : List Feature) → action ≡ Insert handle features → ⊥) → planned may plan action ≡ worked_or_not may plan action
unfolding planned acted parts_of worked worked_or_not
planned_other may plan (Insert handle features) other = absurd (other handle features refl)
planned_other may plan (Update handle kind sets passing) other = then_or_not (are_too_many (Update handle kind sets passing) (touched_by (Update handle kind sets passing) plan.at)) not_one _ _
planned_other may plan (Replace handle feature passing) other = then_or_not (are_too_many (Replace handle feature passing) (touched_by (Replace handle feature passing) plan.at)) not_one _ _
planned_other may plan (Delete kind passing) other = then_or_not (are_too_many (Delete kind passing) (touched_by (Delete kind passing) plan.at)) not_one _ _

-- ---- what is refused, and what is not

pub comes_refused : (fault : PlanFault) (refusal : Refusal) (said : Result Planning Refusal) (plan : Planning) → IsRefusal fault refusal → said ≡ Err refusal → ComesTo (Err fault) said plan
comes_refused (Refused other) refusal said plan is refuses = refuses ∙ ap (λ r. Err r) (sym is)
comes_refused OutOfMemory refusal said plan is refuses = tt

-- it would touch too many features
pub too_many : (may : May) (plan : Planning) (action : Action) (ids : List Rid) → ids ≡ touched_by action plan.at → are_too_many action ids ≡ true → worked_or_not may plan action ≡ Err not_one
unfolding worked_or_not
too_many may plan action ids is many = rw (ap (are_too_many action) (sym is) ∙ many) refl

-- it would touch no more than it may be of
few : (may : May) (plan : Planning) (action : Action) (ids : List Rid) → ids ≡ touched_by action plan.at → are_too_many action ids ≡ false → worked_or_not may plan action ≡ (may ids >>= λ _. Ok (worked action plan))
unfolding worked_or_not
few may plan action ids is many = rw (ap (are_too_many action) (sym is) ∙ many) (ap (λ l. may l >>= λ _. Ok (worked action plan)) (sym is))

pub is_permitted : (may : May) (plan : Planning) (action : Action) (ids : List Rid) → ids ≡ touched_by action plan.at → are_too_many action ids ≡ false → may ids ≡ Ok tt → worked_or_not may plan action ≡ Ok (worked action plan)
is_permitted may plan action ids is many permits = few may plan action ids is many ∙ ap (λ (r : Result (Unit {0}) Refusal). r >>= λ _. Ok (worked action plan)) permits

pub not_permitted : (fault : PlanFault) (may : May) (plan : Planning) (action : Action) (ids : List Rid) (now : Planning) → ids ≡ touched_by action plan.at → are_too_many action ids ≡ false → (let r : Result (Unit {0}) PlanFault = Err fault in Answers r (may ids)) → ComesTo (Err fault) (worked_or_not may plan action) now
not_permitted (Refused refusal) may plan action ids now is many refuses = few may plan action ids is many ∙ ap (λ (r : Result (Unit {0}) Refusal). r >>= λ _. Ok (worked action plan)) refuses
not_permitted OutOfMemory may plan action ids now is many refuses = tt

-- ---- as many counters as before

came_as_many : (handle : Option (List ℕ)) (plan : Planning) (f : Feature) → length (came handle plan f).at.counters ≡ length plan.at.counters
unfolding came inserted
came_as_many handle plan f = length-set plan.at.counters _ _

pub all_as_many : (handle : Option (List ℕ)) (plan : Planning) (fs : List Feature) → length (fold (came handle) plan fs).at.counters ≡ length plan.at.counters
all_as_many handle plan [] = refl
all_as_many handle plan (f ∷ fs) = all_as_many handle (came handle plan f) fs ∙ came_as_many handle plan f

noted_as_many : (action : Action) (ids : List Rid) (at : Acting) → length (noted action ids at).counters ≡ length at.counters
unfolding noted
noted_as_many (Insert handle features) ids at = refl
noted_as_many (Update handle kind sets passing) ids at = refl
noted_as_many (Replace handle feature passing) ids at = refl
noted_as_many (Delete kind passing) ids at = refl

worked_as_many : (action : Action) (plan : Planning) → length (worked action plan).at.counters ≡ length plan.at.counters
unfolding worked
worked_as_many action plan = noted_as_many action (touched_by action plan.at) _

done_is : (b : Bool) (refusal : Refusal) (m : Result (Unit {0}) Refusal) (plan done : Planning) → (let r : Result Planning Refusal = if b then Err refusal else (m >>= λ _. Ok plan) in r) ≡ Ok done → plan ≡ done
done_is true refusal m plan done e = absurd cc
done_is false refusal (Ok tt) plan done e = cc
done_is false refusal (Err other) plan done e = absurd cc

all_done_is : (plan done : Planning) → (let r : Result Planning Refusal = Ok plan in r) ≡ Ok done → plan ≡ done
all_done_is plan done e = cc

-- what is left where nothing is refused
other_as_many : (may : May) (plan : Planning) (action : Action) (done : Planning) → ((handle : Option (List ℕ)) (features : List Feature) → action ≡ Insert handle features → ⊥) → planned may plan action ≡ Ok done → length done.at.counters ≡ length plan.at.counters
unfolding worked_or_not
other_as_many may plan action done other is =
    ap (λ (p : Planning). length p.at.counters) (sym (done_is (are_too_many action (touched_by action plan.at)) not_one (may (touched_by action plan.at)) (worked action plan) done (sym (planned_other may plan action other) ∙ is))) ∙ worked_as_many action plan

pub planned_as_many : (may : May) (plan : Planning) (action : Action) (done : Planning) → may [] ≡ Ok tt → planned may plan action ≡ Ok done → length done.at.counters ≡ length plan.at.counters
planned_as_many may plan (Insert handle features) done none is =
    ap (λ (p : Planning). length p.at.counters) (sym (all_done_is (fold (came handle) plan features) done (sym (planned_insert may plan handle features none) ∙ is))) ∙ all_as_many handle plan features
planned_as_many may plan (Update handle kind sets passing) done none is = other_as_many may plan (Update handle kind sets passing) done (λ h fs e. cc) is
planned_as_many may plan (Replace handle feature passing) done none is = other_as_many may plan (Replace handle feature passing) done (λ h fs e. cc) is
planned_as_many may plan (Delete kind passing) done none is = other_as_many may plan (Delete kind passing) done (λ h fs e. cc) is

-- ---- the work of an action on the features that it selected

pub work_is : (action : Action) (plan : Planning) (features : List Feature) (parts : List Part) (ids : List Rid) → IsInOrder plan.at.features → ids ≡ touched_by action plan.at → turning features parts ≡ fold (turned action) (turning plan.at.features plan.parts) ids
    → plan_at (noted action ids (record plan.at { features = features })) parts (plan.touched ++ ids) ≡ worked action plan
unfolding worked
work_is action plan features parts ids order is done =
    let all : turning features parts ≡ turning (flat_map (left_of action) plan.at.features) (plan.parts ++ map (part action) (filter (selects action) plan.at.features)) = done ∙ ap (fold (turned action) (turning plan.at.features plan.parts)) is ∙ turned_all action plan.at.features plan.parts order in
    ap (λ l. plan_at (noted action l (record plan.at { features = features })) parts (plan.touched ++ l)) is
    ∙ ap (λ (t : Turning). plan_at (noted action (touched_by action plan.at) (record plan.at { features = t.features })) t.parts (plan.touched ++ touched_by action plan.at)) all

-- ---- the beginning and the end

-- a plan without actions is what actions begin with
pub begins : (may : May) (features fs : List Feature) (counters cs : List ℕ) (plan : Planning) (actions : List Action) → plan ≡ plan_at (begun features counters) [] [] → features ≡ fs → counters ≡ cs → each (planned may) plan actions ≡ planned_all may fs cs actions
unfolding planned_all
begins may features fs counters cs plan actions start is same =
    ap (λ p. each (planned may) p actions) start ∙ ap (λ l. planned_all may l counters actions) is ∙ ap (λ l. planned_all may fs l actions) same

-- what refuses the actions leaves no plan
pub no_plan : (fault : PlanFault) (said total : Result Planning Refusal) (now : Planning) → said ≡ total → ComesTo (Err fault) said now → Answers (let r : Result Planned PlanFault = Err fault in r) (if_planned total)
no_plan (Refused refusal) said total now is refused = ap if_planned (sym is ∙ refused)
no_plan OutOfMemory said total now is refused = tt
