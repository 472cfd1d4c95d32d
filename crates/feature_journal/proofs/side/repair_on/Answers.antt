use Rattle.disk_core.proofs.Seen.{ok_more}
use Rattle.disk_core.specs.Disk.{Torn}
use Rattle.disk_core.proofs.Runs.{goes, every_on}
use Rattle.feature_journal.specs.Side.{Begun, behind}
use Rattle.feature_journal.proofs.Images.{torn_on, begun_closed, gate_reads}
use Rattle.feature_journal.proofs.side.repair_on.Goals as goal

pub set_gate-requires : goal.set_gate-requires
set_gate-requires g c = let r = c.requires in gate_reads g.D.Disk.shown g.D.Disk.images g.met.D.Disk.reads c.args.disk.now c.args.gate r.0 (behind r.1) r.2 r.3

pub returns-clause-goes : goal.returns-clause-goes
returns-clause-goes g c front body is all =
    goes g.D.Disk.moment g.D.Disk.since g.D.Disk.images (Torn c.args.gate 1) (Begun front body) (Begun front body) _ _ (λ e b. b) (λ d e b torn. torn_on c.args.gate front (behind body) d e is b torn) c.set_gate.ensures.torn all

pub returns-clause-still : goal.returns-clause-still
returns-clause-still g c front body is all =
    every_on g.D.Disk.moment g.D.Disk.since g.D.Disk.images (Torn c.args.gate 1) (Begun front body) (Begun front body) _ _ (λ d e b torn. torn_on c.args.gate front (behind body) d e is b torn) c.set_gate.ensures.torn all

pub returns-clause-closed : goal.returns-clause-closed
returns-clause-closed g c = ok_more c.set_gate.result _ _ (λ set front body is all e here. begun_closed front body e (set front (behind body) is all e here)) c.set_gate.ensures.set
