use Rattle.std.proofs.Common.{inl, refl, sym, subst, ap, ◌∙◌}
use Rattle.disk_core.specs.Disk.{Torn, Same, Leads}
use Rattle.disk_core.specs.Sides.{chosen, spare}
use Rattle.disk_core.specs.Sides.Always.{once, then}
use Rattle.disk_core.specs.StoryLaws.{torn_none}
use Rattle.disk_core.proofs.Seen.{ok_more}
use Rattle.feature_journal.specs.Whole.{Says}
use Rattle.feature_journal.specs.Settled.{SaysOr}
use Rattle.feature_journal.proofs.Knowing.{within_more}
use Rattle.feature_journal.proofs.Quieted.{quieted_goes, known_quieted, placed_quieted}
use Rattle.disk_core.proofs.Runs.{leads_still}
use Rattle.feature_journal.proofs.settling.settle.Goals as goal

pub returns-in_err-quiet_stale-clause-goes : goal.returns-in_err-quiet_stale-clause-goes
returns-in_err-quiet_stale-clause-goes g c r k =
    once _ _ (within_more g.D.Disk.moment g.D.Disk.since (Says r.lists) (SaysOr c.args.is_closed r) _ _ (λ x y says. inl says)
    (quieted_goes g.D.Disk.moment g.D.Disk.since g.D.Disk.images g.met.D.Disk.counts g.met.D.Disk.only c.args.second c.args.gate c.args.is_stale c.args.is_closed r c.args.disks.now c.quiet_stale.new.disks k c.quiet_stale.ensures.torn c.quiet_stale.ensures.same c.quiet_stale.ensures.left))

pub returns-in_err-quiet_stale-clause-current : goal.returns-in_err-quiet_stale-clause-current
returns-in_err-quiet_stale-clause-current g c = leads_still g.D.Disk.moment g.D.Disk.since g.D.Disk.images (Torn c.args.gate 1) (chosen c.args.second c.args.disks.now) _ (g.met.D.Disk.counts (chosen c.args.second c.args.disks.now)) (g.met.D.Disk.only (chosen c.args.second c.args.disks.now)) (λ s. torn_none c.args.gate 1 s) c.quiet_stale.ensures.same

pub returns-in_err-quiet_stale-clause-current_closed : goal.returns-in_err-quiet_stale-clause-current_closed
returns-in_err-quiet_stale-clause-current_closed g c e = leads_still g.D.Disk.moment g.D.Disk.since g.D.Disk.images Same (chosen c.args.second c.args.disks.now) _ (g.met.D.Disk.counts (chosen c.args.second c.args.disks.now)) (g.met.D.Disk.only (chosen c.args.second c.args.disks.now)) (λ s. refl) c.quiet_stale.ensures.same

pub returns-in_err-quiet_stale-clause-other_left : goal.returns-in_err-quiet_stale-clause-other_left
returns-in_err-quiet_stale-clause-other_left g c e = ap (spare c.args.second) (c.quiet_stale.ensures.left e)

pub returns-clause-goes : goal.returns-clause-goes
returns-clause-goes g c r k =
    let quieted = quieted_goes g.D.Disk.moment g.D.Disk.since g.D.Disk.images g.met.D.Disk.counts g.met.D.Disk.only c.args.second c.args.gate c.args.is_stale c.args.is_closed r c.args.disks.now c.quiet_stale.new.disks k c.quiet_stale.ensures.torn c.quiet_stale.ensures.same c.quiet_stale.ensures.left in
    then _ c.quiet_stale.new.disks _ (within_more g.D.Disk.moment g.D.Disk.since (Says r.lists) (SaysOr c.args.is_closed r) _ _ (λ x y says. inl says) quieted)
    (once _ _ (c.close.ensures.goes r (known_quieted g.D.Disk.images c.args.second c.args.gate c.args.is_stale c.args.is_closed r c.args.disks.now c.quiet_stale.new.disks k c.quiet_stale.ensures.same c.quiet_stale.ensures.left c.in_ok-quiet_stale.ensures.shut)))

pub returns-clause-held : goal.returns-clause-held
returns-clause-held g c = ok_more c.close.result _ _ (λ held generation bodies p. held generation bodies
    (placed_quieted g.D.Disk.images c.args.second c.args.gate c.args.is_stale c.args.is_closed generation bodies c.args.disks.now c.quiet_stale.new.disks p c.quiet_stale.ensures.same c.quiet_stale.ensures.left c.in_ok-quiet_stale.ensures.shut)) c.close.ensures.held

pub returns-clause-current : goal.returns-clause-current
returns-clause-current g c = subst (λ d. Leads g.D.Disk.moment g.D.Disk.since g.D.Disk.images (Torn c.args.gate 1) d (chosen c.args.second c.close.new.disks)) c.quiet_stale.ensures.same c.close.ensures.torn

pub returns-clause-current_closed : goal.returns-clause-current_closed
returns-clause-current_closed g c e = subst (λ d. Leads g.D.Disk.moment g.D.Disk.since g.D.Disk.images Same d (chosen c.args.second c.close.new.disks)) c.quiet_stale.ensures.same (c.close.ensures.crash e)

pub returns-clause-other : goal.returns-clause-other
returns-clause-other g c = subst (λ d. Leads g.D.Disk.moment g.D.Disk.since g.D.Disk.images (Torn 0 1) (spare c.args.second c.args.disks.now) d) (sym c.close.ensures.same) c.quiet_stale.ensures.torn

pub returns-clause-other_left : goal.returns-clause-other_left
returns-clause-other_left g c e = c.close.ensures.same ∙ ap (spare c.args.second) (c.quiet_stale.ensures.left e)
