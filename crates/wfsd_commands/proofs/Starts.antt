-- A start of the store, with the limits that are stated.
use Rattle.std.proofs.Common.{◌≡◌, ◌⊎◌, ℕ, List, All, length, Some, Result, Ok, Err, refl, subst}
use Rattle.std.specs.Prelude.{IfOk, IfErr}
use Rattle.disk_core.specs.declared.disk.Disk.{Ghosts as DiskMeaning}
use Rattle.disk_core.specs.declared.pair.Pair.{Pair}
use Rattle.durable_journal.specs.declared.fault.OpenFault.{OpenFault}
use Rattle.durable_journal.specs.declared.fault.OpenFault.TheVariants.{DiskFault}
use Rattle.durable_journal.specs.Current.{HoldsSome}
use Rattle.durable_journal.specs.Opened.{IsOfBytes, IsRefusal}
use Rattle.durable_journal.specs.OpenedSide.{IsOpenedSide}
use Rattle.durable_journal.specs.Standing.{ComeTo, SaysOpened}
use Rattle.feature_journal.specs.Faults.{NoneFell, OneRose}
use Rattle.feature_journal.specs.Nothing.{Nothing, Unmade}
use Rattle.feature_journal.specs.Whole.{Says}
use Rattle.feature_values.specs.declared.schema.Schema.{Schema}
use Rattle.journal_replay.specs.Replayed.{verdict_on}
use Rattle.recovery.specs.Crash.{AfterSync, WithTail}
use Rattle.recovery.specs.Looked.{Untouched}
use Rattle.recovery.specs.Outcome.{outcome_of}
use Rattle.wfs_model.specs.declared.limits.Limits.{Limits}
use Rattle.wfs_model.specs.State.{Durable, nothing}
use Rattle.wfs_store.specs.Held.{Held}
use Rattle.wfs_store.specs.Started.{HasBegun, OpensOn}
use Rattle.wfsd_commands.specs.Starting.{AreStated, IsStarted, IsNotStarted}

module _ {D : Type 0} (mean : DiskMeaning D) (schema : Schema) (disks : Pair D) (limits : Limits) (are : AreStated limits) where
  abbrev Opens : Held D → Type 0
  Opens s = (a b : List ℕ) → mean.shown disks.a ≡ Some a → mean.shown disks.b ≡ Some b → OpensOn schema (outcome_of (verdict_on schema) limits.side a b) s.opening

  abbrev OpensSide : Held D → Type 0
  OpensSide s = (a b : List ℕ) → mean.shown disks.a ≡ Some a → mean.shown disks.b ≡ Some b → IsOpenedSide mean.images schema (outcome_of (verdict_on schema) limits.side a b) s.current s.side s.disks

  abbrev Goes : Pair D → Type 0
  Goes new = (a b : List ℕ) (lists : List (List (List ℕ))) (kept : Durable) → mean.shown disks.a ≡ Some a → mean.shown disks.b ≡ Some b → (s : Says lists a b) → All (ComeTo schema kept) lists
      → AfterSync mean.shown mean.moment mean.since mean.images (λ x y. WithTail lists s x y ⊎ SaysOpened schema kept x y) disks new

  abbrev First : Pair D → Type 0
  First new = (a b : List ℕ) → mean.shown disks.a ≡ Some a → mean.shown disks.b ≡ Some b → Unmade a → Unmade b
      → AfterSync mean.shown mean.moment mean.since mean.images (λ x y. Nothing x y ⊎ SaysOpened schema (nothing (length schema.types)) x y) disks new

  pub started : (r : Result (Held D) (Pair D × OpenFault)) → IfOk r (HasBegun schema limits) → IfOk r Opens → IfOk r (λ s. HoldsSome mean.images s.current s.disks) → IfOk r OpensSide → IfOk r (λ s. Goes s.disks) → IfOk r (λ s. First s.disks)
      → IfOk r (λ s. NoneFell mean.faults disks s.disks) → IfOk r (IsStarted mean schema disks)
  started (Ok s) begun opens current side goes first count = record {
    limits = rw begun.limits_are are;
    begun = record { schema_is = begun.schema_is; limits_are = refl; entries = begun.entries; begun = begun.begun; tally = begun.tally };
    opens = λ a b at_a at_b. subst (λ (n : ℕ). OpensOn schema (outcome_of (verdict_on schema) n a b) s.opening) are.side (opens a b at_a at_b);
    current = current;
    side = λ a b at_a at_b. subst (λ (n : ℕ). IsOpenedSide mean.images schema (outcome_of (verdict_on schema) n a b) s.current s.side s.disks) are.side (side a b at_a at_b);
    safely = record { goes = λ lists kept a b at_a at_b says all. goes a b lists kept at_a at_b says all; first = first; count = count };
  }
  started (Err e) begun opens current side goes first count = tt

  abbrev Refuses : Pair D × OpenFault → Type 0
  Refuses e = (a b : List ℕ) → mean.shown disks.a ≡ Some a → mean.shown disks.b ≡ Some b → IsRefusal schema limits.side (outcome_of (verdict_on schema) limits.side a b) e.1

  pub not_started : (r : Result (Held D) (Pair D × OpenFault)) → IfErr r Refuses → IfErr r (λ e. IsOfBytes e.1 → Untouched mean.shown mean.moment mean.since mean.images disks e.0)
      → IfErr r (λ e. Goes e.0) → IfErr r (λ e. First e.0) → IfErr r (λ e. NoneFell mean.faults disks e.0) → IfErr r (λ e. e.1 ≡ DiskFault → OneRose mean.faults disks e.0)
      → IfErr r (λ e. IsNotStarted mean schema disks e.1 e.0)
  not_started (Ok s) refused unwritten goes first count cause = tt
  not_started (Err e) refused unwritten goes first count cause = record {
    refused = λ a b at_a at_b. subst (λ (n : ℕ). IsRefusal schema n (outcome_of (verdict_on schema) n a b) e.1) are.side (refused a b at_a at_b);
    unwritten = unwritten;
    safely = record { goes = λ lists kept a b at_a at_b says all. goes a b lists kept at_a at_b says all; first = first; count = count };
    cause = cause;
  }
