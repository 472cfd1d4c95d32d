-- How commands end: with the disks, or with a store whose journal was made shorter.
use Rattle.std.proofs.Common.{◌≡◌, ◌⊎◌, inl, inr, ℕ, List, [], None, Result, Ok, Err, refl, ap, ◌∙◌, subst}
use Rattle.std.proofs.lemmas.List.Elements.{All-nil}
use Rattle.disk_core.specs.declared.disk.Disk.{Ghosts as DiskMeaning}
use Rattle.disk_core.specs.declared.pair.Pair.{Pair}
use Rattle.durable_journal.specs.declared.fault.OpenFault.{OpenFault}
use Rattle.durable_journal.specs.declared.looking.Counts.{Counts}
use Rattle.feature_values.specs.declared.schema.Schema.{Schema}
use Rattle.http_requests.specs.Verdicts.{IsEntryOf}
use Rattle.program_output.specs.Lines.{GivesOr, sides_line}
use Rattle.service_session.specs.Solo.{own_seat}
use Rattle.wfs_ends.specs.Ends.{Shown}
use Rattle.wfs_store.specs.declared.fault.StepFault.{StepFault}
use Rattle.wfs_store.specs.declared.fault.StepFault.TheVariants.{StoreFault, Full, OutOfMemory}
use Rattle.wfs_store.specs.Compacted.{IsCompactionOf, IsEnded}
use Rattle.wfs_store.specs.Held.{Held}
use Rattle.wfsd_commands.specs.declared.done.Done.{Done}
use Rattle.wfsd_commands.specs.Becoming.{IsLegalStore, HasOwnEntries, RestsUnless, Stands, IsLeft}
use Rattle.wfsd_commands.specs.Commands.{side_of, Shortened, Unshortened, Shortens, shortened, unshortened}
use Rattle.wfsd_commands.specs.Early.{EndsSaying}
use Rattle.wfsd_commands.specs.Left.{LeavesDisks, LeavesStore}
use Rattle.wfsd_commands.specs.Starting.{IsStarted, IsNotStarted, EndsUnopened}
use Rattle.wfsd_commands.specs.Statuses.{EndsWith, unopened_line, unopened_status, stopped_line, stopped_status}

-- a fault, as what a look answers
abbrev pub unseen : OpenFault → Result Counts OpenFault
unseen fault = Err fault

module _ {D : Type 0} (done : Done D) where
  pub own_disks : (status : ℕ) (disks : Pair D) → LeavesDisks status disks done → LeavesDisks done.status disks done
  own_disks status disks leaves = record { status_is = refl; no_store = leaves.no_store; disks_are = leaves.disks_are }

  pub own_store : (status : ℕ) (store : Held D) → LeavesStore status store done → LeavesStore done.status store done
  own_store status store leaves = record { status_is = refl; store_is = leaves.store_is; no_disks = leaves.no_disks }

  pub own_line : (status : ℕ) (is : ℕ) (old new : Shown) (line : List ℕ) → is ≡ status → EndsWith old line new status → EndsWith old line new is
  own_line status is old new line e says = rw e says

  pub unopened_ends : (fault : OpenFault) (left : Pair D) (old new : Shown) (status : ℕ) → LeavesDisks status left done → status ≡ unopened_status fault → GivesOr old (unopened_line fault) new
      → EndsSaying (unopened_status fault) (unopened_line fault) left old done new
  unopened_ends fault left old new status leaves is says = record { leaves = subst (λ (n : ℕ). LeavesDisks n left done) is leaves; says = says }

  pub ends_unopened : (mean : DiskMeaning D) (schema : Schema) (disks : Pair D) (fault : OpenFault) (left : Pair D) (old new : Shown) (status : ℕ) → IsNotStarted mean schema disks fault left
      → LeavesDisks status left done → status ≡ unopened_status fault → GivesOr old (unopened_line fault) new → EndsUnopened mean schema disks old done new
  ends_unopened mean schema disks fault left old new status not_started leaves is says = record { fault = fault; left = left; not_started = not_started; ends = unopened_ends fault left old new status leaves is says }

  pub stopped_store : (fault : StepFault) (store : Held D) (status : ℕ) → LeavesStore status store done → status ≡ stopped_status fault → LeavesStore (stopped_status fault) store done
  stopped_store fault store status leaves is = subst (λ (n : ℕ). LeavesStore n store done) is leaves

-- ---- a journal that is made shorter

module _ {D : Type 0} (mean : DiskMeaning D) (first store : Held D) where
  ended : (result : Result (Unit {0}) StepFault) → IsEnded first result store → first.begun ≡ None → RestsUnless mean.faults first.disks store.begun store.disks
  ended (Ok done) is none = inl is
  ended (Err StoreFault) (inl is) none = inl is
  ended (Err StoreFault) (inr same) none = inl (same ∙ none)
  ended (Err (Full at)) is none = inl is
  ended (Err OutOfMemory) is none = inl is

  no_entries : store.entries ≡ [] → IsLegalStore store × HasOwnEntries store
  no_entries none = rw none (tt, All-nil (IsEntryOf own_seat store.schema))

  pub compacted_left : (result : Result (Unit {0}) StepFault) → IsCompactionOf mean.moment mean.since mean.images mean.faults first result store → first.entries ≡ [] → first.begun ≡ None → Stands mean store → IsLeft mean first.disks store
  compacted_left result is none begun stands =
      let empty : store.entries ≡ [] = ap (λ (s : Held D). s.entries) is.same ∙ none in
      record {
        legal = (no_entries empty).0;
        own = (no_entries empty).1;
        stands = stands;
        rests = ended result is.begun begun;
        count = is.count;
      }

  pub shorter : (old : Shown) (done : Done D) (new : Shown) (before after status : ℕ) → IsCompactionOf mean.moment mean.since mean.images mean.faults first (Ok tt) store → before ≡ side_of first → after ≡ side_of store
      → LeavesStore status store done → EndsWith old (sides_line before after) new status → Shortened mean first old done new
  shorter old done new before after status is at_first at_last leaves says = record {
    store = store;
    compacted = is;
    leaves = own_store done status store leaves;
    says = rw (leaves.status_is, ← at_first, ← at_last) says;
  }

  pub not_shorter : (old : Shown) (done : Done D) (new : Shown) (fault : StepFault) (status : ℕ) → IsCompactionOf mean.moment mean.since mean.images mean.faults first (Err fault) store
      → LeavesStore status store done → status ≡ stopped_status fault → GivesOr old (stopped_line fault) new → Unshortened mean first old done new
  not_shorter old done new fault status is leaves status_is says = record { fault = fault; store = store; compacted = is; leaves = stopped_store done fault store status leaves status_is; says = says }

pub shortens_by : {D : Type 0} (mean : DiskMeaning D) (schema : Schema) (disks : Pair D) (first : Held D) (old : Shown) (done : Done D) (new : Shown) → IsStarted mean schema disks first
    → Shortened mean first old done new ⊎ Unshortened mean first old done new → Shortens mean schema disks old done new
shortens_by mean schema disks first old done new started (inl is) = shortened first started is
shortens_by mean schema disks first old done new started (inr is) = unshortened first started is
