use Rattle.std.proofs.Common.{◌≡◌, ℕ, ◌∷◌, List, Some, sym, subst}
use Rattle.std.specs.Prelude.{slice_get}
use Rattle.disk_core.specs.Story.{read_after, read_after_all, Left, LeftAll, Image}
use Rattle.disk_core.specs.Story.Step.{synced}
use Rattle.disk_core.proofs.Crashes.{left_append}
use Rattle.disk_core.proofs.Outside.{stays}
use Rattle.disk_core.proofs.laws.all_outside_stays.Goals as goal

pub returns-clause-synced : goal.returns-clause-synced
unfolding LeftAll
returns-clause-synced c base left before after k byte all out is image =
    let s = read_after_all base before in
    let behind : LeftAll (Image base before) s (synced ∷ after) left = subst (λ (T : Type 0). T) (left_append (λ d. d ≡ base) base before (synced ∷ after) left) image in
    stays (Left (Image base before) s synced) (read_after s synced) after k byte all out (λ d e. subst (λ (x : List ℕ). slice_get x k ≡ Some byte) (sym e) is) left behind

pub returns-clause-never_synced : goal.returns-clause-never_synced
returns-clause-never_synced c base left steps k byte all out is image =
    stays (λ d. d ≡ base) base steps k byte all out (λ d e. subst (λ (x : List ℕ). slice_get x k ≡ Some byte) (sym e) is) left image
