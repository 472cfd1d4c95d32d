use Rattle.std.proofs.Common.{◌∙◌, sym, subst}
use Rattle.disk_core.specs.Sides.{chosen}
use Rattle.disk_core.proofs.Seen.{ok_more}
use Rattle.feature_journal.specs.Held.{IsStable}
use Rattle.feature_journal.proofs.settling.sync_chosen.Goals as goal

pub returns-then-second-clause-stable : goal.returns-then-second-clause-stable
returns-then-second-clause-stable g c = ok_more c.sync.result _ _ (λ stable. subst (λ s. IsStable g.D.Disk.shown g.D.Disk.images (chosen s (record { a = c.args.disks.now.a; b = c.sync.new.self }))) (sym c.if-second.true) (λ image here. c.sync.ensures.same ∙ stable image here)) c.sync.ensures.stable

pub returns-else-second-clause-stable : goal.returns-else-second-clause-stable
returns-else-second-clause-stable g c = ok_more c.sync-else-second.result _ _ (λ stable. subst (λ s. IsStable g.D.Disk.shown g.D.Disk.images (chosen s (record { a = c.sync-else-second.new.self; b = c.args.disks.now.b }))) (sym c.if-second.false) (λ image here. c.sync-else-second.ensures.same ∙ stable image here)) c.sync-else-second.ensures.stable
