use Rattle.std.proofs.Common.{◌≤◌, [], length, arith}
use Rattle.disk_core.proofs.Seen.{reads_more}
use Rattle.feature_journal.specs.Side.{side}
use Rattle.feature_journal.proofs.Images.{gate_long}
use Rattle.recovery.specs.Looked.{EndsAt}
use Rattle.recovery.proofs.Phases.{placed_of}
use Rattle.recovery.proofs.recovering.take_over.Goals as goal

pub settle-requires : goal.settle-requires
settle-requires g c =
    let f = c.args.found in
    let at = c.requires.at in
    reads_more _ (EndsAt (record { gate = f.gate; is_closed = f.is_closed }) f.generation at.0) (λ s. f.gate ≤ length s)
    (λ s e. omega (arith, gate_long (side f.generation at.0) [] s e.there, at.1.size)) at.1.current

pub adopt-requires-clause-held : goal.adopt-requires-clause-held
adopt-requires-clause-held g c =
    let f = c.args.found in
    let at = c.requires.at in
    (at.0, c.in-Ok.ensures.held f.generation at.0 (placed_of g.D.Disk.shown g.D.Disk.images g.met.D.Disk.tells f c.args.side at.0 c.args.disks c.requires.stable at.1))

pub returns-in-Ok-clause-rests : goal.returns-in-Ok-clause-rests
returns-in-Ok-clause-rests g c taken at =
    let f = c.args.found in
    c.adopt.ensures.rests taken (c.in-Ok.ensures.held f.generation taken (placed_of g.D.Disk.shown g.D.Disk.images g.met.D.Disk.tells f c.args.side taken c.args.disks c.requires.stable at))
