use Rattle.std.proofs.Common.{◌++◌, ◌∷◌, ◌∙◌}
use Rattle.disk_core.specs.Disk.{Begins}
use Rattle.disk_core.proofs.Seen.{seen, reads_written, every_stable, ok_more, ok_all}
use Rattle.feature_journal.specs.Side.{Gate}
use Rattle.feature_journal.proofs.Images.{set_on}
use Rattle.feature_journal.proofs.side.set_gate.Goals as goal

pub returns-clause-set : goal.returns-clause-set
returns-clause-set g c = ok_more c.sync.result _ _ (λ stable front text is all.
    let at_first = seen g.D.Disk.shown g.D.Disk.images g.met.D.Disk.reads c.args.disk.now (Gate front text) all in
    let at_last = reads_written _ _ _ _ (Gate front text) (Begins (front ++ c.args.value ∷ text)) (λ s b. set_on c.args.gate front text c.args.value s is b) c.in_ok-write_at.ensures.done at_first in
    every_stable _ _ (Begins (front ++ c.args.value ∷ text)) stable at_last) c.sync.ensures.stable

pub returns-clause-stable : goal.returns-clause-stable
returns-clause-stable g c = ok_more c.sync.result _ _ (λ stable image here. c.sync.ensures.same ∙ stable image here) c.sync.ensures.stable

pub returns-clause-done : goal.returns-clause-done
returns-clause-done g c = ok_all c.sync.result _ (c.sync.ensures.same ∙ c.in_ok-write_at.ensures.done)
