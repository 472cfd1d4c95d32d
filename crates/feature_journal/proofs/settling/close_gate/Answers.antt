use Rattle.std.proofs.Common.{sym, subst}
use Rattle.disk_core.specs.Sides.{chosen}
use Rattle.disk_core.proofs.Seen.{ok_more}
use Rattle.feature_journal.specs.Held.{IsStable}
use Rattle.feature_journal.proofs.settling.close_gate.Goals as goal

pub returns-then-second-clause-stable : goal.returns-then-second-clause-stable
returns-then-second-clause-stable g c = ok_more c.set_gate.result _ _ (λ stable. subst (λ s. IsStable g.D.Disk.shown g.D.Disk.images (chosen s (record { a = c.args.disks.now.a; b = c.set_gate.new.disk }))) (sym c.if-second.true) stable) c.set_gate.ensures.stable

pub returns-else-second-clause-stable : goal.returns-else-second-clause-stable
returns-else-second-clause-stable g c = ok_more c.set_gate-else-second.result _ _ (λ stable. subst (λ s. IsStable g.D.Disk.shown g.D.Disk.images (chosen s (record { a = c.set_gate-else-second.new.disk; b = c.args.disks.now.b }))) (sym c.if-second.false) stable) c.set_gate-else-second.ensures.stable
