use Rattle.std.proofs.Common.{true, false, refl, sym, subst}
use Rattle.feature_journal.specs.Side.{Closed, side}
use Rattle.feature_journal.specs.Held.{HeldClosed, AfterBoth}
use Rattle.feature_journal.proofs.Pairs.{held_goes, held_after}
use Rattle.feature_journal.proofs.sides.append_to.Goals as goal

pub returns-then-second-clause-goes : goal.returns-then-second-clause-goes
returns-then-second-clause-goes g c generation bodies held =
    let at_b = subst (λ s. HeldClosed g.D.Disk.images s generation c.args.gate bodies c.args.disks.now) c.if-second.true held in
    held_goes g.D.Disk.moment g.D.Disk.since g.D.Disk.images g.met.D.Disk.counts g.met.D.Disk.only true generation c.args.gate bodies c.args.body.now Closed c.args.disks.now _ c.requires.fits.0 at_b (c.append_on.ensures.goes (side generation bodies) at_b.size at_b.ends) refl

pub returns-then-second-clause-now : goal.returns-then-second-clause-now
returns-then-second-clause-now g c generation bodies held =
    let at_b = subst (λ s. HeldClosed g.D.Disk.images s generation c.args.gate bodies c.args.disks.now) c.if-second.true held in
    subst (λ s. AfterBoth g.D.Disk.images s generation c.args.gate bodies c.args.body.now c.append_on.result (record { a = c.args.disks.now.a; b = c.append_on.new.disk })) (sym c.if-second.true)
    (held_after g.D.Disk.images true generation c.args.gate bodies c.args.body.now c.append_on.result c.args.disks.now _ c.requires.fits.0 at_b (c.append_on.ensures.now (side generation bodies) at_b.size at_b.ends) refl)

pub returns-else-second-clause-goes : goal.returns-else-second-clause-goes
returns-else-second-clause-goes g c generation bodies held =
    let at_a = subst (λ s. HeldClosed g.D.Disk.images s generation c.args.gate bodies c.args.disks.now) c.if-second.false held in
    held_goes g.D.Disk.moment g.D.Disk.since g.D.Disk.images g.met.D.Disk.counts g.met.D.Disk.only false generation c.args.gate bodies c.args.body.now Closed c.args.disks.now _ c.requires.fits.0 at_a (c.append_on-else-second.ensures.goes (side generation bodies) at_a.size at_a.ends) refl

pub returns-else-second-clause-now : goal.returns-else-second-clause-now
returns-else-second-clause-now g c generation bodies held =
    let at_a = subst (λ s. HeldClosed g.D.Disk.images s generation c.args.gate bodies c.args.disks.now) c.if-second.false held in
    subst (λ s. AfterBoth g.D.Disk.images s generation c.args.gate bodies c.args.body.now c.append_on-else-second.result (record { a = c.append_on-else-second.new.disk; b = c.args.disks.now.b })) (sym c.if-second.false)
    (held_after g.D.Disk.images false generation c.args.gate bodies c.args.body.now c.append_on-else-second.result c.args.disks.now _ c.requires.fits.0 at_a (c.append_on-else-second.ensures.now (side generation bodies) at_a.size at_a.ends) refl)
