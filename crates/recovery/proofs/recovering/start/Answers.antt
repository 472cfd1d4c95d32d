use Rattle.std.proofs.Common.{inl, IfSome, subst}
use Rattle.disk_core.specs.Sides.Always.{once}
use Rattle.feature_journal.specs.Nothing.{Nothing}
use Rattle.feature_journal.proofs.Pairs.{within_still}
use Rattle.feature_journal.proofs.Quieted.{dormant_unmade}
use Rattle.recovery.specs.Choice.{IsResting}
use Rattle.feature_journal.proofs.Knowing.{always_on}
use Rattle.recovery.proofs.Phases.{unused_shown}
use Rattle.recovery.proofs.recovering.start.Goals as goal

pub returns-then-side-lt17-clause-goes_err : goal.returns-then-side-lt17-clause-goes_err
returns-then-side-lt17-clause-goes_err g c a b =
    once _ _ (within_still g.D.Disk.moment g.D.Disk.since g.D.Disk.images g.met.D.Disk.counts g.met.D.Disk.only Nothing c.args.disks
    (λ x y at_x at_y. inl (dormant_unmade c.args.first_is_stale (g.D.Disk.images c.args.disks.a) a x at_x, dormant_unmade c.args.second_is_stale (g.D.Disk.images c.args.disks.b) b y at_y)))

pub fresh-requires-clause-unused : goal.fresh-requires-clause-unused
fresh-requires-clause-unused g c =
    let d = c.args.disks in (
      c.in-Ok.ensures.unused_a (λ e. unused_shown g.D.Disk.shown g.D.Disk.images d.a (λ x here. g.met.D.Disk.tells d.a x here) c.requires.stable.a (subst (λ s. IfSome (g.D.Disk.shown d.a) (IsResting s)) e c.requires.rests.first)),
      c.in-Ok.ensures.unused_b (λ e. unused_shown g.D.Disk.shown g.D.Disk.images d.b (λ x here. g.met.D.Disk.tells d.b x here) c.requires.stable.b (subst (λ s. IfSome (g.D.Disk.shown d.b) (IsResting s)) e c.requires.rests.second)),
    )

pub returns-in-Err-fresh-clause-goes_err : goal.returns-in-Err-fresh-clause-goes_err
returns-in-Err-fresh-clause-goes_err g c a b = always_on g.D.Disk.moment g.D.Disk.since Nothing _ _ _ (c.shut_stale.ensures.goes a b) (once _ _ c.in-Err-fresh.ensures.goes_err)

pub returns-in-Ok-fresh-clause-goes : goal.returns-in-Ok-fresh-clause-goes
returns-in-Ok-fresh-clause-goes g c a b = always_on g.D.Disk.moment g.D.Disk.since Nothing _ _ _ (c.shut_stale.ensures.goes a b) (once _ _ c.in-Ok-fresh.ensures.goes)
