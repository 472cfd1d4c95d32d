-- What becomes of a store, step after step.
use Rattle.std.proofs.Common.{◌≡◌, inl, inr, ℕ, ◌+◌, ◌≤◌, List, [], ◌∷◌, None, Result, Ok, Err, refl, ◌∙◌, arith}
use Rattle.std.proofs.lemmas.List.Elements.{All-nil, All-cons}
use Rattle.disk_core.specs.Sides.{Always, EveryBoth}
use Rattle.disk_core.specs.Sides.Always.{once}
use Rattle.durable_journal.specs.Standing.{SaysEither, SaysWith}
use Rattle.feature_journal.proofs.Knowing.{always_more, always_on}
use Rattle.feature_journal.proofs.Pairs.{within_still}
use Rattle.http_requests.specs.Verdicts.{Served, Grows, IsEntryOf, with_entry}
use Rattle.http_requests.proofs.Growing.{grows_none, grows_both}
use Rattle.service_session.specs.Became.{StoreBecomes, SaysOnTheWay}
use Rattle.service_session.specs.Solo.{own_seat, served_of, answer_of, TakesSteps, none, more, steps_both}
use Rattle.service_session.specs.Told.{store_fault}
use Rattle.service_session.proofs.Failures.{none_fell, none_fell_both, failed_none, failed_both, failed_by, begun_by, begun_both}
use Rattle.service_session.proofs.Tallies.{tallied_none, tallied_both, tallied_by}
use Rattle.wfs_model.specs.declared.entry.Entry.{Entry}
use Rattle.wfs_model.specs.declared.reply.Reply.{Reply}
use Rattle.wfs_model.specs.Changing.{IsChange}
use Rattle.wfs_store.specs.declared.fault.StepFault.{StepFault}
use Rattle.wfs_store.specs.Held.{Held, now_of, kept_of}
use Rattle.wfs_store.specs.Stepped.{IsStepOf, SameOpening, change_by, taken_up}

same_opening : {D : Type 0} (held : Held D) → SameOpening held held
same_opening held = record { schema = refl; limits = refl; opening = refl; side = refl; current = refl }

opening_both : {D : Type 0} (a b c : Held D) → SameOpening a b → SameOpening b c → SameOpening a c
opening_both a b c g h = record { schema = h.schema ∙ g.schema; limits = h.limits ∙ g.limits; opening = h.opening ∙ g.opening; side = h.side ∙ g.side; current = h.current ∙ g.current }

-- the history of a store is this, where its parts are
served_is : {D : Type 0} (held : Held D) (served : Served) → held.schema ≡ served.schema → held.opening ≡ served.opening → held.entries ≡ served.entries → served_of held ≡ served
served_is held served schema opening entries = rw (schema, opening, entries) refl

module _ {D : Type 0} (time : D → ℕ) (since : D → ℕ → List ℕ → Type 0) (faults : D → ℕ) where
  -- ---- one step

  module _ (old new : Held D) (entry : Entry) (change : IsChange entry.request) (own : IsEntryOf own_seat old.schema entry) where
    entry_grows : Grows own_seat (served_of old) (with_entry (served_of old) (taken_up old entry))
    entry_grows =
        let later : (now_of old).last ≤ (taken_up old entry).moment = omega arith in
        record {
          schema = refl;
          opening = refl;
          more = taken_up old entry ∷ [];
          entries = refl;
          legal = (change, later, tt);
          own = All-cons (IsEntryOf own_seat old.schema) (taken_up old entry) [] (record { own = own.own; fitting = own.fitting }) (All-nil (IsEntryOf own_seat old.schema));
        }

    step_grows : (result : Result Reply StepFault) → IsStepOf time since faults old entry result new → Grows own_seat (served_of old) (served_of new)
    step_grows (Ok reply) is = rw (served_is new (with_entry (served_of old) (taken_up old entry)) is.opening.schema is.opening.opening is.entered.0) entry_grows
    step_grows (Err fault) is = rw (served_is new (served_of old) is.opening.schema is.opening.opening is.entered) (grows_none own_seat (served_of old))

    step_becomes : (result : Result Reply StepFault) → IsStepOf time since faults old entry result new → StoreBecomes faults old new
    step_becomes result is = record {
      grows = step_grows result is;
      opening = is.opening;
      begun = begun_by faults old new entry result is.begun is.cause;
      number = store_fault (answer_of result);
      tallied = tallied_by old new entry own.own result is.tallied;
      caused = failed_by faults old.disks new.disks result is.cause;
      count = is.count;
    }

  -- ---- all steps

  becomes_none : (held : Held D) → StoreBecomes faults held held
  becomes_none held = record {
    grows = grows_none own_seat (served_of held);
    opening = same_opening held;
    begun = inl (inr refl);
    number = 0;
    tallied = tallied_none held.tally;
    caused = failed_none faults held.disks held.disks;
    count = none_fell faults held.disks;
  }

  becomes_both : (a b c : Held D) → StoreBecomes faults a b → StoreBecomes faults b c → StoreBecomes faults a c
  becomes_both a b c g h = record {
    grows = grows_both own_seat (served_of a) (served_of b) (served_of c) g.grows h.grows;
    opening = opening_both a b c g.opening h.opening;
    begun = begun_both faults a b c g.count h.count g.begun h.begun;
    number = g.number + h.number;
    tallied = tallied_both a.tally b.tally c.tally g.number h.number g.tallied h.tallied;
    caused = failed_both faults a.disks b.disks c.disks g.number h.number g.count h.count g.caused h.caused;
    count = none_fell_both faults a.disks b.disks c.disks g.count h.count;
  }

  -- what steps make of a store
  pub becomes_by : (old new : Held D) → TakesSteps time since faults old new → StoreBecomes faults old new
  becomes_by old new none = becomes_none old
  becomes_by old new (more mid last before entry result change own is) =
      becomes_both old mid last (becomes_by old mid before) (step_becomes mid last entry change own result is)

  pub steps_schema : (old new : Held D) → TakesSteps time since faults old new → new.schema ≡ old.schema
  steps_schema old new steps = (becomes_by old new steps).opening.schema

  -- ---- crashes on the way

  on_the_way : (old mid new : Held D) → TakesSteps time since faults mid new → (x y : List ℕ) → SaysOnTheWay time since faults old mid x y → SaysOnTheWay time since faults old new x y
  on_the_way old mid new behind x y says = record {
    at = says.at;
    came = says.came;
    goes_on = steps_both time since faults says.at mid new says.goes_on behind;
    work = says.work;
    in_work = says.in_work;
    says = says.says;
  }

  module _ (images : D → List ℕ → Type 0) (counts : (d : D) (t : ℕ) (c : List ℕ) → t ≤ time d → images d c → since d t c) (only : (d : D) (c : List ℕ) → since d (time d) c → images d c) where
    still_goes : (held : Held D) → EveryBoth images (SaysWith held.schema (kept_of held) held.begun) held.disks → Always time since (SaysOnTheWay time since faults held held) held.disks held.disks
    still_goes held stand =
        once held.disks held.disks (within_still time since images counts only (SaysOnTheWay time since faults held held) held.disks
        (λ x y at_a at_b. record { at = held; came = none; goes_on = none; work = None; in_work = inl refl; says = inl (stand x y at_a at_b) }))

    -- at each moment of some steps
    pub goes_by : (old new : Held D) → EveryBoth images (SaysWith old.schema (kept_of old) old.begun) old.disks → TakesSteps time since faults old new
        → Always time since (SaysOnTheWay time since faults old new) old.disks new.disks
    goes_by old new stand none = still_goes old stand
    goes_by old new stand (more mid last before entry result change own is) =
        let one : TakesSteps time since faults mid last = more mid last none entry result change own is in
        always_on time since (SaysOnTheWay time since faults old last) old.disks mid.disks last.disks
        (always_more time since (SaysOnTheWay time since faults old mid) (SaysOnTheWay time since faults old last) old.disks mid.disks (on_the_way old mid last one) (goes_by old mid stand before))
        (always_more time since (SaysEither mid.schema (kept_of mid) mid.begun (change_by mid entry)) (SaysOnTheWay time since faults old last) mid.disks last.disks
        (λ x y says. record { at = mid; came = before; goes_on = one; work = change_by mid entry; in_work = inr (entry, own, refl); says = says }) is.goes)
