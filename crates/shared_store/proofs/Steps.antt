-- A step of one seat is what the turnstile asks of it, and what goes on to hold of the store.
use Rattle.std.proofs.Common.{◌≡◌, ◌≢◌, inl, inr, ℕ, zero, suc, ◌+◌, ◌-◌, ◌≤◌, min, set, sum, List, [], ◌∷◌, length, get_or, Option, Some, None, Result, Ok, Err, refl, ap, ◌∙◌, arith, le_trans}
use Rattle.std.proofs.lemmas.List.{get_or-set_other, length-set}
use Rattle.std.proofs.lemmas.List.Elements.{All-nil, All-cons, All-append}
use Rattle.std.proofs.lemmas.List.Sums.{sum_by-cons}
use Rattle.disk_core.specs.declared.pair.Pair.{Pair}
use Rattle.feature_journal.specs.Faults.{OneRose, NoneFell}
use Rattle.service_session.specs.Became.{HaveFailed}
use Rattle.service_session.specs.Solo.{answer_of}
use Rattle.service_session.specs.Told.{store_fault}
use Rattle.service_session.proofs.Failures.{failed_both, failed_by}
use Rattle.shared_store.specs.Openings.{HasLegalHistory, tally_of, tallied_in, IsOneOf}
use Rattle.wfs_ends.specs.Ends.{last_count}
use Rattle.wfs_model.specs.declared.change.Change.{Change}
use Rattle.wfs_model.specs.declared.entry.Entry.{Entry}
use Rattle.wfs_model.specs.declared.reply.Reply.{Reply}
use Rattle.wfs_model.specs.Changing.{IsChange}
use Rattle.wfs_model.specs.OfSchema.{IsOfSchema}
use Rattle.wfs_store.specs.declared.fault.StepFault.{StepFault}
use Rattle.wfs_store.specs.declared.fault.StepFault.TheVariants as fault
use Rattle.wfs_store.specs.Held.{Held, now_of}
use Rattle.wfs_store.specs.Stepped.{SameOpening, IsStepOf, taken_up, change_by}
use Rattle.wfs_store.specs.Written.{begun_after}
use Rattle.wfs_store.proofs.Histories.{legal_more}

-- ---- counts of failures

module _ {D : Type 0} (faults : D → ℕ) where
  -- a count that rose from the middle on rose, and one that rose up to the middle
  rose_later : (a b c : Pair D) → NoneFell faults a b → OneRose faults b c → OneRose faults a c
  rose_later a b c fell (inl r) = let low = fell.0 in inl (omega arith)
  rose_later a b c fell (inr r) = let low = fell.1 in inr (omega arith)

  rose_before : (a b c : Pair D) → NoneFell faults b c → OneRose faults a b → OneRose faults a c
  rose_before a b c fell (inl r) = inl (le_trans r fell.0)
  rose_before a b c fell (inr r) = inr (le_trans r fell.1)

  -- what holds of so many failures holds of fewer
  failed_fewer : (a b : Pair D) (n k : ℕ) → n ≤ k → HaveFailed faults a k b → HaveFailed faults a n b
  failed_fewer a b n k fewer (inl failed) = inl (le_trans fewer failed)
  failed_fewer a b n k fewer (inr last) = inr last

-- a list of which one number rose by one at the most
sum_set : (l : List ℕ) (i y : ℕ) → y ≤ get_or l i 0 + 1 → sum (set l i y) ≤ sum l + 1
sum_set [] i y most = omega arith
sum_set (x ∷ l) zero y most = let before = sum_by-cons (λ (n : ℕ). n) x l in let after = sum_by-cons (λ (n : ℕ). n) y l in omega (arith, before, after, most)
sum_set (x ∷ l) (suc i) y most =
    let before = sum_by-cons (λ (n : ℕ). n) x l in
    let after = sum_by-cons (λ (n : ℕ). n) x (set l i y) in
    omega (arith, before, after, sum_set l i y most)

begun_after_none : (made begun : Option Change) → begun ≡ None → begun_after made begun ≡ None
begun_after_none None begun none = none
begun_after_none (Some change) begun none = refl

pub opening_both : {D : Type 0} (a b c : Held D) → SameOpening a b → SameOpening b c → SameOpening a c
opening_both a b c g h = record { schema = h.schema ∙ g.schema; limits = h.limits ∙ g.limits; opening = h.opening ∙ g.opening; side = h.side ∙ g.side; current = h.current ∙ g.current }

-- ---- a step

module _ {D : Type 0} (at : D → ℕ) (since : D → ℕ → List ℕ → Type 0) (faults : D → ℕ) (old new : Held D) (entry : Entry) where
  legal_still : (result : Result Reply StepFault) → IsChange entry.request → IsOfSchema old.schema entry.request → IsStepOf at since faults old entry result new
      → HasLegalHistory old → HasLegalHistory new
  legal_still (Ok reply) change fitting is h =
      let taken : Entry = taken_up old entry in
      let later : (now_of old).last ≤ taken.moment = omega arith in
      let fits = λ (e : Entry). IsOfSchema old.schema e.request in
      rw (is.opening.schema, is.opening.opening, is.entered.0) (record {
        legal = legal_more old.schema old.opening old.entries taken h.legal change later;
        fitting = All-append fits old.entries (taken ∷ []) h.fitting (All-cons fits taken [] fitting (All-nil fits));
      })
  legal_still (Err fault) change fitting is h = rw (is.opening.schema, is.opening.opening, is.entered) h

  quiet_still : (result : Result Reply StepFault) → IsStepOf at since faults old entry result new
      → old.begun ≡ None → (OneRose faults old.disks new.disks → ⊥) → new.begun ≡ None
  quiet_still (Ok reply) is none calm = is.begun ∙ begun_after_none (change_by old entry) old.begun none
  quiet_still (Err fault.StoreFault) is none calm = absurd (calm (is.cause refl))
  quiet_still (Err (fault.Full full)) is none calm = is.begun ∙ none
  quiet_still (Err fault.OutOfMemory) is none calm = is.begun ∙ none

  seats_still : (result : Result Reply StepFault) → IsStepOf at since faults old entry result new → length new.tally ≡ length old.tally
  seats_still (Ok reply) is = ap length is.tallied
  seats_still (Err fault.StoreFault) is = ap length is.tallied ∙ length-set old.tally entry.seat _
  seats_still (Err (fault.Full full)) is = ap length is.tallied
  seats_still (Err fault.OutOfMemory) is = ap length is.tallied

  none_risen : tallied_in new ≡ tallied_in old → tallied_in new - tallied_in old ≤ 0
  none_risen same = omega (arith, same)

  -- the tallies rise by a store fault, and by nothing else
  rises_still : (result : Result Reply StepFault) → IsStepOf at since faults old entry result new → tallied_in new - tallied_in old ≤ store_fault (answer_of result)
  rises_still (Ok reply) is = none_risen (ap sum is.tallied)
  rises_still (Err fault.StoreFault) is =
      let most : ℕ = min (tally_of old entry.seat + 1) last_count in
      let there : tallied_in new ≡ sum (set old.tally entry.seat most) = ap sum is.tallied in
      let risen = sum_set old.tally entry.seat most (omega arith) in
      let one : tallied_in new - tallied_in old ≤ 1 = omega (arith, there, risen) in one
  rises_still (Err (fault.Full full)) is = none_risen (ap sum is.tallied)
  rises_still (Err fault.OutOfMemory) is = none_risen (ap sum is.tallied)

  caused_still : (result : Result Reply StepFault) → IsStepOf at since faults old entry result new → HaveFailed faults old.disks (tallied_in new - tallied_in old) new.disks
  caused_still result is = failed_fewer faults old.disks new.disks (tallied_in new - tallied_in old) (store_fault (answer_of result)) (rises_still result is)
      (failed_by faults old.disks new.disks result is.cause)

  others_still : (result : Result Reply StepFault) → IsStepOf at since faults old entry result new → (n : ℕ) → n ≢ entry.seat → tally_of new n ≡ tally_of old n
  others_still (Ok reply) is n other = ap (λ (l : List ℕ). get_or l n 0) is.tallied
  others_still (Err fault.StoreFault) is n other = ap (λ (l : List ℕ). get_or l n 0) is.tallied ∙ get_or-set_other old.tally entry.seat n _ 0 other
  others_still (Err (fault.Full full)) is n other = ap (λ (l : List ℕ). get_or l n 0) is.tallied
  others_still (Err fault.OutOfMemory) is n other = ap (λ (l : List ℕ). get_or l n 0) is.tallied

  pub step_is_one : (result : Result Reply StepFault) → IsChange entry.request → IsOfSchema old.schema entry.request → IsStepOf at since faults old entry result new
      → IsOneOf faults old entry.seat new
  step_is_one result change fitting is = record {
    others = others_still result is;
    opening = λ first kept. record {
      same = opening_both first old new kept.same is.opening;
      legal = λ legal. legal_still result change fitting is (kept.legal legal);
      count = (le_trans kept.count.0 is.count.0, le_trans kept.count.1 is.count.1);
      caused =
          let before : ℕ = tallied_in old - tallied_in first in
          let here : ℕ = tallied_in new - tallied_in old in
          failed_fewer faults first.disks new.disks (tallied_in new - tallied_in first) (before + here) (omega arith)
          (failed_both faults first.disks old.disks new.disks before here kept.count is.count kept.caused (caused_still result is));
      begun = λ none calm. quiet_still result is
          (kept.begun none (λ rose. calm (rose_before faults first.disks old.disks new.disks is.count rose)))
          (λ rose. calm (rose_later faults first.disks old.disks new.disks kept.count rose));
      seats = seats_still result is ∙ kept.seats;
    };
  }
