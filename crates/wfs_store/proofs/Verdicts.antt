-- Which limit an entry would pass, as the parts of a step judge it.
use Rattle.std.proofs.Common.{◌≡◌, ℕ, length, Option, None, Err, refl, sym, ap, ◌∙◌, subst}
use Rattle.std.specs.Option.{option_or}
use Rattle.request_plans.specs.declared.plan.Plan.{Plan}
use Rattle.request_plans.specs.Plan.{IsPlan}
use Rattle.service_state.specs.declared.fault.PrepareFault.{PrepareFault}
use Rattle.service_state.specs.declared.fault.PrepareFault.TheVariants as preparing
use Rattle.service_state.specs.Passed.{Limited, passed_between}
use Rattle.wfs_model.specs.declared.change.Change.{Change}
use Rattle.wfs_model.specs.declared.entry.Entry.{Entry}
use Rattle.wfs_model.specs.declared.limits.FullAt.{FullAt}
use Rattle.wfs_model.specs.Full.{full_at}
use Rattle.wfs_model.specs.History.{timed}
use Rattle.wfs_model.specs.Played.{change_of}
use Rattle.wfs_model.specs.State.{State, moment_in}
use Rattle.wfs_model.specs.Step.{step}
use Rattle.wfs_store.specs.declared.course.Course.{Course}
use Rattle.wfs_store.specs.declared.fault.StepFault.{StepFault}
use Rattle.wfs_store.specs.declared.fault.StepFault.TheVariants.{StoreFault, Full, OutOfMemory}
use Rattle.wfs_store.specs.Judged.{IsFaultOf, passed_by_count, passed_by_side, same_fault}
use Rattle.wfs_store.specs.Kept.{IsCourse, body_length, length_after}
use Rattle.wfs_store.proofs.Limits.{full_for_past}

-- the limit that an entry would pass, as it is judged in memory
abbrev pub full_in : (opening : State) (start : ℕ) → Course → Entry → Option FullAt
full_in opening start course entry =
    full_at course.state.schema (body_length course.state.schema) start opening course.limits course.history.items (timed course.state.state entry)

-- ---- faults

first_judges : (a rest full : Option FullAt) (fault : StepFault) → full ≡ option_or a rest → IsFaultOf a fault → IsFaultOf full fault
first_judges a rest full StoreFault is judged = judged
first_judges a rest full (Full at) is judged = is ∙ ap (λ (o : Option FullAt). option_or o rest) judged
first_judges a rest full OutOfMemory is judged = tt

second_judges : (a b c full : Option FullAt) (fault : PrepareFault) → full ≡ option_or a (option_or b c) → a ≡ None → Limited b (Err fault) → IsFaultOf full (same_fault fault)
second_judges a b c full (preparing.Full at) is none judged = is ∙ ap (λ (o : Option FullAt). option_or o (option_or b c)) none ∙ ap (λ (o : Option FullAt). option_or o c) judged
second_judges a b c full preparing.OutOfMemory is none judged = tt

third_judges : (a b c full : Option FullAt) (fault : StepFault) → full ≡ option_or a (option_or b c) → a ≡ None → b ≡ None → IsFaultOf c fault → IsFaultOf full fault
third_judges a b c full StoreFault is none free judged = judged
third_judges a b c full (Full at) is none free judged = is ∙ ap (λ (o : Option FullAt). option_or o (option_or b c)) none ∙ ap (λ (o : Option FullAt). option_or o c) free ∙ judged
third_judges a b c full OutOfMemory is none free judged = tt

-- ---- an entry

module _ (opening : State) (start : ℕ) (course : Course) (entry : Entry) where
  abbrev by_count : Option FullAt
  by_count = passed_by_count course.limits (length course.history.items) course.bytes entry.size

  abbrev by_state : ℕ → Option FullAt
  by_state moment = passed_between course.limits moment course.state.state (step course.state.schema course.state.state moment entry.request).1

  abbrev by_side : ℕ → Option Change → Option FullAt
  by_side side change = passed_by_side course.limits.side (body_length course.state.schema) side change

  abbrev made : ℕ → Option Change
  made moment = change_of course.state.schema course.state.state moment entry.request

  module _ (side : ℕ) (is : IsCourse opening course) (long : side ≡ length_after course.state.schema start opening course.history.items) where
    parts : (moment : ℕ) → moment ≡ moment_in course.state.state entry.moment
        → full_in opening start course entry ≡ option_or by_count (option_or (by_state moment) (by_side side (made moment)))
    parts moment at =
        full_for_past course.state.schema (body_length course.state.schema) start opening course.state.state course.limits course.history.items course.bytes course.last entry moment is.past at
        ∙ ap (λ (s : ℕ). option_or by_count (option_or (by_state moment) (by_side s (made moment)))) (sym long)

    pub count_judged : (fault : StepFault) → IsFaultOf by_count fault → IsFaultOf (full_in opening start course entry) fault
    count_judged fault judged = first_judges by_count _ _ fault (parts (moment_in course.state.state entry.moment) refl) judged

    module _ (moment : ℕ) (plan : Plan) (at : moment ≡ moment_in course.state.state entry.moment) (planned : IsPlan course.state.schema course.state.state moment entry.request plan)
        (none : by_count ≡ None) where
      pub state_judged : (fault : PrepareFault) → Limited (by_state moment) (Err fault) → IsFaultOf (full_in opening start course entry) (same_fault fault)
      state_judged fault judged = second_judges by_count (by_state moment) _ _ fault (parts moment at) none judged

      made_is : by_side side plan.change ≡ by_side side (made moment)
      made_is = ap (by_side side) planned.change

      pub side_judged : (fault : StepFault) → by_state moment ≡ None → IsFaultOf (by_side side plan.change) fault → IsFaultOf (full_in opening start course entry) fault
      side_judged fault free judged =
          third_judges by_count (by_state moment) _ _ fault (parts moment at) none free (subst (λ (o : Option FullAt). IsFaultOf o fault) made_is judged)

      pub none_judged : by_state moment ≡ None → by_side side plan.change ≡ None → full_in opening start course entry ≡ None
      none_judged free fits =
          parts moment at ∙ ap (λ (o : Option FullAt). option_or o (option_or (by_state moment) (by_side side (made moment)))) none
          ∙ ap (λ (o : Option FullAt). option_or o (by_side side (made moment))) free ∙ sym made_is ∙ fits
