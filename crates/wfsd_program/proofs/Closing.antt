-- How services end.
use Rattle.std.proofs.Common.{◌≡◌, ℕ, Bool, true, false, List, [], Option, sym, subst}
use Rattle.program_output.specs.Lines.{GivesOr, no_memory}
use Rattle.service_doors.specs.Accepting.{Accepting}
use Rattle.service_session.specs.declared.gate.NoGate.{NoGate}
use Rattle.store_server.specs.declared.slot.Ended.{Ended}
use Rattle.store_server.specs.declared.slot.Slot.{Slot}
use Rattle.store_server.specs.Serving.{RunFits}
use Rattle.wfs_ends.specs.Ends.{Shown, GivesAll, GivesFront, Writes}
use Rattle.wfs_store.specs.Held.{Held}
use Rattle.wfsd_commands.proofs.Leaving.{own_store}
use Rattle.wfsd_program.specs.declared.run.Run.{Run}
use Rattle.wfsd_program.specs.Left.{LeavesService, done_of}
use Rattle.wfsd_program.specs.Serving.{HasServed, Unserved}
use Rattle.wfsd_program.specs.Statuses.{EndsBy}

-- ---- the line of a service

abbrev Gave : Shown → List ℕ → Bool → Shown → Type 0
Gave old line failed new = Writes (record { shown = old; failed = false }) line (record { shown = new; failed = failed })

pub untold : (failed : Bool) (old new : Shown) (line : List ℕ) → failed ≡ true → Gave old line failed new → GivesFront old line new
untold failed old new line is gave = let w : Gave old line true new = subst (λ (f : Bool). Gave old line f new) is gave in w.is

pub told : (failed : Bool) (old new : Shown) (line : List ℕ) → failed ≡ false → Gave old line failed new → GivesAll old line new
told failed old new line is gave = let w : Gave old line false new = subst (λ (f : Bool). Gave old line f new) is gave in w.is

-- ---- what is left

module _ {D A C : Type 0} (run : Run D A C) where
  -- what is left by this status is left by its own
  own_status : (status : ℕ) (store : Held D) (ended : List (Ended A C NoGate)) (idle : List (Slot A C NoGate)) → LeavesService status store ended idle run → LeavesService run.status store ended idle run
  own_status status store ended idle left = record { leaves = own_store (done_of run) status store left.leaves; workers = left.workers; idle_are = left.idle_are }

  pub served_by : (faults : D → ℕ) (accepting : A → Accepting) (moments : C → Option (List ℕ)) (limit : Option ℕ) (first store : Held D) (slots : List (Slot A C NoGate)) (ended : List (Ended A C NoGate))
      (old new : Shown) (status : ℕ) → RunFits accepting moments limit faults first slots store ended → LeavesService status store ended [] run → EndsBy ended old status new
      → HasServed faults accepting moments limit first slots old run new
  served_by faults accepting moments limit first store slots ended old new status fits left ends = record {
    store = store;
    ended = ended;
    fits = fits;
    leaves = own_status status store ended [] left;
    ends = subst (λ (n : ℕ). EndsBy ended old n new) (sym left.leaves.status_is) ends;
  }

  pub unserved_by : (first back : Held D) (slots same : List (Slot A C NoGate)) (old new : Shown) → back ≡ first → same ≡ slots → LeavesService 8 back [] same run → GivesOr old no_memory new
      → Unserved first slots old run new
  unserved_by first back slots same old new is are left says = record {
    says = says;
    leaves = subst (λ (l : List (Slot A C NoGate)). LeavesService 8 first [] l run) are (subst (λ (s : Held D). LeavesService 8 s [] same run) is left);
  }
