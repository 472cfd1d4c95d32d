-- How a store goes on, step after step.
use Rattle.std.proofs.Common.{◌≡◌, ℕ, ◌≤◌, List, [], ◌∷◌, Option, Some, None, Result, Ok, Err, inl, inr, refl, ◌∙◌, arith}
use Rattle.std.specs.Prelude.{IfSome}
use Rattle.disk_core.specs.declared.disk.Disk.{Ghosts as DiskMeaning}
use Rattle.disk_core.specs.declared.pair.Pair.{Pair}
use Rattle.feature_journal.specs.Faults.{NoneFell, OneRose}
use Rattle.http_requests.specs.Verdicts.{Served, Grows, IsEntryOf, with_entry}
use Rattle.http_requests.proofs.Growing.{grows_none, grows_both, legal_still, own_still}
use Rattle.std.proofs.lemmas.List.Elements.{All-nil, All-cons}
use Rattle.service_session.specs.Solo.{own_seat, served_of}
use Rattle.wfs_model.specs.declared.change.Change.{Change}
use Rattle.wfs_model.specs.declared.entry.Entry.{Entry}
use Rattle.wfs_model.specs.declared.reply.Reply.{Reply}
use Rattle.wfs_model.specs.Changing.{IsChange}
use Rattle.wfs_model.specs.OfSchema.{IsOfSchema}
use Rattle.wfs_store.specs.declared.fault.StepFault.{StepFault}
use Rattle.wfs_store.specs.declared.fault.StepFault.TheVariants.{StoreFault, Full, OutOfMemory}
use Rattle.wfs_store.specs.Held.{Held, now_of}
use Rattle.wfs_store.specs.Stepped.{IsStepOf, taken_up, change_by}
use Rattle.wfs_store.specs.Written.{begun_after}
use Rattle.wfsd_commands.specs.Becoming.{RestsUnless, GoesOn, IsLegalStore, HasOwnEntries, Stands, IsLeft}

-- ---- counts of failures

pub rose_then : {D : Type 0} (faults : D → ℕ) (a b c : Pair D) → OneRose faults a b → NoneFell faults b c → OneRose faults a c
rose_then faults a b c (inl rose) fell = inl (omega (arith, rose, fell.0))
rose_then faults a b c (inr rose) fell = inr (omega (arith, rose, fell.1))

pub then_rose : {D : Type 0} (faults : D → ℕ) (a b c : Pair D) → NoneFell faults a b → OneRose faults b c → OneRose faults a c
then_rose faults a b c fell (inl rose) = inl (omega (arith, rose, fell.0))
then_rose faults a b c fell (inr rose) = inr (omega (arith, rose, fell.1))

fell_both : {D : Type 0} (faults : D → ℕ) (a b c : Pair D) → NoneFell faults a b → NoneFell faults b c → NoneFell faults a c
fell_both faults a b c one two = (omega (arith, one.0, two.0), omega (arith, one.1, two.1))

-- ---- what is begun

rests_then : {D : Type 0} (faults : D → ℕ) (a b : Pair D) (begun begun' : Option Change) (c : Pair D)
    → RestsUnless faults a begun b → (begun ≡ None → RestsUnless faults b begun' c) → NoneFell faults a b → NoneFell faults b c → RestsUnless faults a begun' c
rests_then faults a b begun begun' c (inr rose) next before fell = inr (rose_then faults a b c rose fell)
rests_then faults a b begun begun' c (inl none) next before fell = by (next none)
  where
    by : RestsUnless faults b begun' c → RestsUnless faults a begun' c
    by (inl none) = inl none
    by (inr rose) = inr (then_rose faults a b c before rose)

-- ---- steps

module _ {D : Type 0} (faults : D → ℕ) where
  pub goes_none : (store : Held D) → GoesOn faults store store
  goes_none store = record {
    opening = record { schema = refl; limits = refl; opening = refl; side = refl; current = refl };
    grows = grows_none own_seat (served_of store);
    begun = λ none. inl none;
    count = (omega arith, omega arith);
  }

  pub goes_both : (a b c : Held D) → GoesOn faults a b → GoesOn faults b c → GoesOn faults a c
  goes_both a b c g h = record {
    opening = record {
      schema = h.opening.schema ∙ g.opening.schema;
      limits = h.opening.limits ∙ g.opening.limits;
      opening = h.opening.opening ∙ g.opening.opening;
      side = h.opening.side ∙ g.opening.side;
      current = h.opening.current ∙ g.opening.current;
    };
    grows = grows_both own_seat (served_of a) (served_of b) (served_of c) g.grows h.grows;
    begun = λ none. rests_then faults a.disks b.disks b.begun c.begun c.disks (g.begun none) h.begun g.count h.count;
    count = fell_both faults a.disks b.disks c.disks g.count h.count;
  }

  -- the history is this, where its parts are
  history_is : (held : Held D) (served : Served) → held.schema ≡ served.schema → held.opening ≡ served.opening → held.entries ≡ served.entries → served_of held ≡ served
  history_is held served schema opening entries = rw (schema, opening, entries) refl

  module _ (moment : D → ℕ) (since : D → ℕ → List ℕ → Type 0) (old new : Held D) (entry : Entry) (own : entry.seat ≡ own_seat) (change : IsChange entry.request) (fitting : IsOfSchema old.schema entry.request) where
    entered : Grows own_seat (served_of old) (with_entry (served_of old) (taken_up old entry))
    entered =
        let later : (now_of old).last ≤ (taken_up old entry).moment = omega arith in
        record {
          schema = refl;
          opening = refl;
          more = taken_up old entry ∷ [];
          entries = refl;
          legal = (change, later, tt);
          own = All-cons (IsEntryOf own_seat old.schema) (taken_up old entry) [] (record { own = own; fitting = fitting }) (All-nil (IsEntryOf own_seat old.schema));
        }

    step_grows : (result : Result Reply StepFault) → IsStepOf moment since faults old entry result new → Grows own_seat (served_of old) (served_of new)
    step_grows (Ok reply) is = rw (history_is new (with_entry (served_of old) (taken_up old entry)) is.opening.schema is.opening.opening is.entered.0) entered
    step_grows (Err fault) is = rw (history_is new (served_of old) is.opening.schema is.opening.opening is.entered) (grows_none own_seat (served_of old))

    after_none : (made begun : Option Change) → begun ≡ None → begun_after made begun ≡ None
    after_none None begun none = none
    after_none (Some change) begun none = refl

    step_begun : (result : Result Reply StepFault) → IsStepOf moment since faults old entry result new → old.begun ≡ None → RestsUnless faults old.disks new.begun new.disks
    step_begun (Ok reply) is none = inl (is.begun ∙ after_none (change_by old entry) old.begun none)
    step_begun (Err StoreFault) is none = inr (is.cause refl)
    step_begun (Err (Full at)) is none = inl (is.begun ∙ none)
    step_begun (Err OutOfMemory) is none = inl (is.begun ∙ none)

    -- a step of the one seat
    pub step_goes : (result : Result Reply StepFault) → IsStepOf moment since faults old entry result new → GoesOn faults old new
    step_goes result is = record { opening = is.opening; grows = step_grows result is; begun = step_begun result is; count = is.count }

-- ---- what a command leaves

module _ {D : Type 0} (mean : DiskMeaning D) where
  -- a store that had no history, and at which nothing was begun
  pub left_behind : (first store : Held D) → first.entries ≡ [] → first.begun ≡ None → GoesOn mean.faults first store → Stands mean store → IsLeft mean first.disks store
  left_behind first store none begun goes stands = record {
    legal = legal_still own_seat (served_of first) (served_of store) (no_entries first none).0 goes.grows;
    own = own_still own_seat (served_of first) (served_of store) (no_entries first none).1 goes.grows;
    stands = stands;
    rests = goes.begun begun;
    count = goes.count;
  }
    where
      no_entries : (s : Held D) → s.entries ≡ [] → IsLegalStore s × HasOwnEntries s
      no_entries s none = rw none (tt, All-nil (IsEntryOf own_seat s.schema))

  -- the same, since the disks were as they were before the start
  since_before : (disks mid : Pair D) (store : Held D) → NoneFell mean.faults disks mid → IsLeft mean mid store → IsLeft mean disks store
  since_before disks mid store fell left = record {
    legal = left.legal;
    own = left.own;
    stands = left.stands;
    rests = by left.rests;
    count = fell_both mean.faults disks mid store.disks fell left.count;
  }
    where
      by : RestsUnless mean.faults mid store.begun store.disks → RestsUnless mean.faults disks store.begun store.disks
      by (inl none) = inl none
      by (inr rose) = inr (then_rose mean.faults disks mid store.disks fell rose)

  pub left_since : (disks mid : Pair D) (left : Option (Held D)) → NoneFell mean.faults disks mid → IfSome left (IsLeft mean mid) → IfSome left (IsLeft mean disks)
  left_since disks mid None fell is = tt
  left_since disks mid (Some store) fell is = since_before disks mid store fell is
