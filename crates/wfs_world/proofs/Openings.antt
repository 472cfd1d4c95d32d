-- A new opening on the journal, and the machine that is made anew for it.
use Rattle.std.proofs.Common.{◌≡◌, ℕ, ◌+◌, true, false, List, sym, ap, ◌∙◌}
use Rattle.feature_values.specs.declared.schema.Schema.{Schema}
use Rattle.wfs_model.specs.declared.change.Change.{Change}
use Rattle.wfs_model.specs.State.{Machine, opened}
use Rattle.wfs_world.specs.declared.event.Event.TheVariants.{Reopen}
use Rattle.wfs_world.specs.Events.{happened}
use Rattle.wfs_world.specs.Kept.{IsWell, IsRunning}
use Rattle.wfs_world.specs.Scene.{Scene, kept_by, opened_on, state_of}
use Rattle.wfs_world.proofs.Answering.{runs_on}

reopened_is : (w : Scene) (number : ℕ) → IsWell w → w.is_up ≡ false → number ≡ w.number + 1 → record w { number = number; is_up = true } ≡ happened w Reopen
reopened_is w number well down next =
    ap (λ (v : Scene). record v { number = number; is_up = true }) (well.down down) ∙ ap (λ (n : ℕ). opened_on w.schema w.seats n w.journal) next

pub reopened_runs : (w now : Scene) (machine next : Machine) (schema : Schema) (journal : List Change) (number : ℕ) → IsRunning w machine → w.is_up ≡ false → number ≡ w.number + 1
    → next ≡ record { schema = schema; state = opened (kept_by schema journal) number } → schema ≡ w.schema → journal ≡ w.journal → now ≡ record w { number = number; is_up = true } → IsRunning now next
reopened_runs w now machine next schema journal number running down count opens schemas journals left =
    let is : now ≡ happened w Reopen = left ∙ reopened_is w number running.well down count in
    runs_on w now Reopen machine next running tt down is (ap (λ (m : Machine). m.schema) opens ∙ schemas ∙ sym running.schema)
    (λ up.
    ap (λ (m : Machine). m.state) opens ∙ ap (λ (s : Schema). opened (kept_by s journal) number) schemas ∙ ap (λ (l : List Change). opened (kept_by w.schema l) number) journals
    ∙ ap (λ (n : ℕ). opened (kept_by w.schema w.journal) n) count ∙ sym (ap (λ (v : Scene). state_of v) is))
