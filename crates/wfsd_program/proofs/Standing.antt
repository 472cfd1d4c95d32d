-- All that holds of the store that a run leaves, whatever it was asked.
use Rattle.std.proofs.Common.{◌≡◌, ◌⊎◌, ℕ, ◌<◌, ◌≤◌, leb, true, false, [], Option, Some, None, inl, inr, sym, subst, ⊎_elim, arith}
use Rattle.std.specs.Prelude.{IfSome}
use Rattle.std.proofs.lemmas.Bool.Decides.{leb_tells}
use Rattle.std.proofs.lemmas.List.Elements.{All-nil, All-weaker}
use Rattle.disk_core.specs.declared.disk.Disk.{Ghosts as DiskMeaning}
use Rattle.disk_core.specs.declared.pair.Pair.{Pair}
use Rattle.feature_journal.specs.Faults.{NoneFell, OneRose}
use Rattle.http_requests.specs.Verdicts.{IsEntryOf}
use Rattle.service_session.specs.Solo.{own_seat}
use Rattle.shared_store.specs.Openings.{HasLegalHistory, StaysOpen}
use Rattle.wfs_ends.specs.Ends.{Rose, risen}
use Rattle.wfs_model.specs.declared.change.Change.{Change}
use Rattle.wfs_model.specs.OfSchema.{IsOfSchema}
use Rattle.wfs_store.specs.Held.{Held}
use Rattle.wfsd_commands.specs.Becoming.{RestsUnless, Stands, IsLeft}
use Rattle.wfsd_commands.proofs.Becomes.{then_rose}
use Rattle.wfsd_commands.specs.declared.done.Done.{Done}
use Rattle.wfsd_commands.specs.Left.{LeavesStore}
use Rattle.wfsd_program.specs.declared.run.Run.{Run}
use Rattle.wfsd_program.specs.Left.{IsLeftStanding, done_of}

-- what holds of a store that a command leaves holds of that of its run
pub as_done : {D A C : Type 0} (P : Held D → Type 0) (run : Run D A C) (done : Done D) → done_of run ≡ done → IfSome done.store P → IfSome run.store P
as_done {D} P run done is holds = subst (λ (d : Done D). IfSome d.store P) (sym is) holds

-- where a command leaves no store, its run leaves none
pub none_there : {D A C : Type 0} (P : Held D → Type 0) (run : Run D A C) (done : Done D) → done_of run ≡ done → done.store ≡ None → IfSome run.store P
none_there P run done is none = as_done P run done is (rw none tt)

-- a store that is left
pub as_left : {D A C : Type 0} (P : Held D → Type 0) (status : ℕ) (store : Held D) (run : Run D A C) → LeavesStore status store (done_of run) → P store → IfSome run.store P
as_left P status store run leaves holds = rw leaves.store_is holds

module _ {D : Type 0} (mean : DiskMeaning D) where
  -- what a command leaves that waits for nobody
  pub left_alone : (disks : Pair D) (left : Option (Held D)) → IfSome left (IsLeft mean disks) → IfSome left (IsLeftStanding mean disks)
  left_alone disks None is = tt
  left_alone disks (Some store) is = record {
    legal = record { legal = is.legal; fitting = All-weaker (IsEntryOf own_seat store.schema) (λ entry. IsOfSchema store.schema entry.request) (λ entry of. of.fitting) store.entries is.own };
    stands = is.stands;
    rests = is.rests;
    count = is.count;
  }

  -- a store with no history
  pub left_fresh : (store : Held D) → store.entries ≡ [] → store.begun ≡ None → Stands mean store → IsLeftStanding mean store.disks store
  left_fresh store none rests stands = record {
    legal = legal_none store none;
    stands = stands;
    rests = inl rests;
    count = (omega arith, omega arith);
  }
    where
      legal_none : (s : Held D) → s.entries ≡ [] → HasLegalHistory s
      legal_none s none = rw none (record { legal = tt; fitting = All-nil (λ entry. IsOfSchema s.schema entry.request) })

  -- a count rose, or it did not
  rose_or : (old new : ℕ) → Rose old new ⊎ (Rose old new → ⊥)
  rose_or old new = by (leb_tells (risen old) new)
    where
      by : ((leb (risen old) new ≡ true) × (risen old ≤ new)) ⊎ ((leb (risen old) new ≡ false) × (new < risen old)) → Rose old new ⊎ (Rose old new → ⊥)
      by (inl told) = inl told.1
      by (inr told) = inr (λ rose. omega (arith, rose, told.1))

  -- nothing is begun, or a count rose
  rests_or : (old new : Pair D) (begun : Option Change) → ((OneRose mean.faults old new → ⊥) → begun ≡ None) → RestsUnless mean.faults old begun new
  rests_or old new begun calm = by (rose_or (mean.faults old.a) (mean.faults new.a)) (rose_or (mean.faults old.b) (mean.faults new.b))
    where
      by : Rose (mean.faults old.a) (mean.faults new.a) ⊎ (Rose (mean.faults old.a) (mean.faults new.a) → ⊥) → Rose (mean.faults old.b) (mean.faults new.b) ⊎ (Rose (mean.faults old.b) (mean.faults new.b) → ⊥)
          → RestsUnless mean.faults old begun new
      by (inl rose) second = inr (inl rose)
      by (inr none) (inl rose) = inr (inr rose)
      by (inr none) (inr neither) = inl (calm (⊎_elim none neither))

  -- a store that is as it was opened, but for its history
  pub left_open : (first store : Held D) → first.begun ≡ None → HasLegalHistory store → StaysOpen mean.faults first store → Stands mean store → IsLeftStanding mean first.disks store
  left_open first store rests legal stays stands = record {
    legal = legal;
    stands = stands;
    rests = rests_or first.disks store.disks store.begun (stays.begun rests);
    count = stays.count;
  }

  -- the same, since the disks were as they were before the start
  pub since_before : (disks mid : Pair D) (left : Option (Held D)) → NoneFell mean.faults disks mid → IfSome left (IsLeftStanding mean mid) → IfSome left (IsLeftStanding mean disks)
  since_before disks mid None fell is = tt
  since_before disks mid (Some store) fell is = record {
    legal = is.legal;
    stands = is.stands;
    rests = by is.rests;
    count = (omega (arith, fell.0, is.count.0), omega (arith, fell.1, is.count.1));
  }
    where
      by : RestsUnless mean.faults mid store.begun store.disks → RestsUnless mean.faults disks store.begun store.disks
      by (inl none) = inl none
      by (inr rose) = inr (then_rose mean.faults disks mid store.disks fell rose)
