use Rattle.std.proofs.Common.{[], sym, subst}
use Rattle.disk_core.specs.Disk.{Goes}
use Rattle.disk_core.specs.Sides.{spare}
use Rattle.feature_journal.specs.Whole.{Idle, Harmless}
use Rattle.feature_journal.proofs.beside.begin_to.Goals as goal

pub returns-then-second-clause-goes : goal.returns-then-second-clause-goes
returns-then-second-clause-goes g c is_b current idle =
    let here = subst (λ s. Idle is_b current (g.D.Disk.images (spare s c.args.disks.now))) c.if-second.true idle in
    subst (λ s. Goes g.D.Disk.moment g.D.Disk.since (Harmless is_b current []) (spare s c.args.disks.now) (spare s (record { a = c.begin_on.new.disk; b = c.args.disks.now.b }))) (sym c.if-second.true) (c.begin_on.ensures.goes is_b current here)

pub returns-then-second-clause-still : goal.returns-then-second-clause-still
returns-then-second-clause-still g c is_b current idle =
    let here = subst (λ s. Idle is_b current (g.D.Disk.images (spare s c.args.disks.now))) c.if-second.true idle in
    subst (λ s. Idle is_b current (g.D.Disk.images (spare s (record { a = c.begin_on.new.disk; b = c.args.disks.now.b })))) (sym c.if-second.true) (c.begin_on.ensures.still is_b current here)

pub returns-else-second-clause-goes : goal.returns-else-second-clause-goes
returns-else-second-clause-goes g c is_b current idle =
    let here = subst (λ s. Idle is_b current (g.D.Disk.images (spare s c.args.disks.now))) c.if-second.false idle in
    subst (λ s. Goes g.D.Disk.moment g.D.Disk.since (Harmless is_b current []) (spare s c.args.disks.now) (spare s (record { a = c.args.disks.now.a; b = c.begin_on-else-second.new.disk }))) (sym c.if-second.false) (c.begin_on-else-second.ensures.goes is_b current here)

pub returns-else-second-clause-still : goal.returns-else-second-clause-still
returns-else-second-clause-still g c is_b current idle =
    let here = subst (λ s. Idle is_b current (g.D.Disk.images (spare s c.args.disks.now))) c.if-second.false idle in
    subst (λ s. Idle is_b current (g.D.Disk.images (spare s (record { a = c.args.disks.now.a; b = c.begin_on-else-second.new.disk })))) (sym c.if-second.false) (c.begin_on-else-second.ensures.still is_b current here)
