use Rattle.std.proofs.Common.{◌≡◌, ℕ, List, Some, ap, subst}
use Rattle.std.specs.Prelude.{IfOk, IfErr}
use Rattle.recovery.specs.Outcome.{outcome_of}
use Rattle.journal_replay.specs.Rebuilt.{Rebuilt}
use Rattle.journal_replay.specs.Replayed.{verdict_on}
use Rattle.durable_journal.specs.Counted.{AreCountsOf, IsRefusedBy}
use Rattle.durable_journal.proofs.looking.look_at_journal.Goals as goal

pub returns-in-Ok-clause-counts : goal.returns-in-Ok-clause-counts
returns-in-Ok-clause-counts g c =
    subst (λ s. IfOk c.look_with-found.result (λ counts. (a : List ℕ) → (b : List ℕ) → g.D.Disk.shown c.args.disks.now.a ≡ Some a → g.D.Disk.shown c.args.disks.now.b ≡ Some b → AreCountsOf s (outcome_of (verdict_on s) c.args.limit a b) counts))
    (ap (λ (r : Rebuilt). r.schema) c.in-Ok.ensures) c.look_with-found.ensures.counts

pub returns-in-Ok-clause-refused : goal.returns-in-Ok-clause-refused
returns-in-Ok-clause-refused g c =
    subst (λ s. IfErr c.look_with-found.result (λ fault. (a : List ℕ) → (b : List ℕ) → g.D.Disk.shown c.args.disks.now.a ≡ Some a → g.D.Disk.shown c.args.disks.now.b ≡ Some b → IsRefusedBy (outcome_of (verdict_on s) c.args.limit a b) fault))
    (ap (λ (r : Rebuilt). r.schema) c.in-Ok.ensures) c.look_with-found.ensures.refused
