use Rattle.std.proofs.Common.{[], refl}
use Rattle.disk_core.specs.Disk.{Torn}
use Rattle.disk_core.proofs.Runs.{goes, every_on}
use Rattle.disk_core.proofs.Seen.{ok_more}
use Rattle.feature_journal.specs.Side.{Gate}
use Rattle.feature_journal.proofs.Images.{torn_on}
use Rattle.feature_journal.proofs.Quieted.{at_front}
use Rattle.feature_journal.proofs.beside.set_first_on.Goals as goal

pub set_gate-requires : goal.set_gate-requires
set_gate-requires g c = at_front _

pub returns-clause-goes : goal.returns-clause-goes
returns-clause-goes g c text all = goes g.D.Disk.moment g.D.Disk.since g.D.Disk.images (Torn 0 1) (Gate [] text) (Gate [] text) _ _ (λ e gate. gate) (λ d e gate torn. torn_on 0 [] text d e refl gate torn) c.set_gate.ensures.torn all

pub returns-clause-still : goal.returns-clause-still
returns-clause-still g c text all = every_on g.D.Disk.moment g.D.Disk.since g.D.Disk.images (Torn 0 1) (Gate [] text) (Gate [] text) _ _ (λ d e gate torn. torn_on 0 [] text d e refl gate torn) c.set_gate.ensures.torn all

pub returns-clause-set : goal.returns-clause-set
returns-clause-set g c = ok_more c.set_gate.result _ _ (λ set text all. set [] text refl all) c.set_gate.ensures.set
