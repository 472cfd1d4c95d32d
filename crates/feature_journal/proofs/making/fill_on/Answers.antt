use Rattle.std.proofs.Common.{[], ◌∷◌, refl, arith}
use Rattle.disk_core.specs.Disk.{Begins}
use Rattle.disk_core.proofs.Seen.{seen, reads_more, reads_written, every_stable, ok_more}
use Rattle.disk_core.proofs.Bytes.{begins_over, length-begins}
use Rattle.disk_core.proofs.Fronts.{keeps_torn, keeps_same}
use Rattle.feature_journal.proofs.making.fill_on.Goals as goal

pub write_at-requires : goal.write_at-requires
write_at-requires g c = reads_more _ (Begins (0 ∷ [])) _ (λ s b. length-begins (0 ∷ []) s b) (seen g.D.Disk.shown g.D.Disk.images g.met.D.Disk.reads c.args.disk.now (Begins (0 ∷ [])) c.requires)

pub returns-clause-kept : goal.returns-clause-kept
returns-clause-kept g c =
    keeps_same g.D.Disk.moment g.D.Disk.since g.D.Disk.images 1 c.args.disk.now c.write_at.new.self c.sync.new.self
    (keeps_torn g.D.Disk.moment g.D.Disk.since g.D.Disk.images 1 _ _ c.args.disk.now c.write_at.new.self (omega arith) c.write_at.ensures.crash) c.sync.ensures.crash

pub returns-clause-filled : goal.returns-clause-filled
returns-clause-filled g c = ok_more c.sync.result _ _ (λ stable.
    let at_first = seen g.D.Disk.shown g.D.Disk.images g.met.D.Disk.reads c.args.disk.now (Begins (0 ∷ [])) c.requires in
    let at_last = reads_written _ _ _ _ (Begins (0 ∷ [])) (Begins (0 ∷ c.args.text.now)) (λ s b. begins_over 1 (0 ∷ []) _ s refl b) c.in_ok-write_at.ensures.done at_first in
    λ image here. record { byte = 0; is = every_stable _ _ (Begins (0 ∷ c.args.text.now)) stable at_last image here }) c.sync.ensures.stable
