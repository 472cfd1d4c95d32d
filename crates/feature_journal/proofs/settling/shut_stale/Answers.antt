use Rattle.std.proofs.Common.{true, false, sym, subst, ap, ◌∙◌}
use Rattle.disk_core.specs.Disk.{Torn, Leads}
use Rattle.disk_core.specs.Sides.Always.{once, then}
use Rattle.disk_core.specs.StoryLaws.{torn_none}
use Rattle.disk_core.proofs.Seen.{ok_more, ok_all}
use Rattle.feature_journal.specs.Nothing.{Unused, Dormant}
use Rattle.feature_journal.proofs.Quieted.{shut_goes, shut_unused, dormant_unmade, unused_unmade}
use Rattle.disk_core.proofs.Runs.{leads_still}
use Rattle.feature_journal.proofs.settling.shut_stale.Goals as goal

pub returns-in_err-quiet_stale-clause-goes : goal.returns-in_err-quiet_stale-clause-goes
returns-in_err-quiet_stale-clause-goes g c a b =
    once _ _ (shut_goes g.D.Disk.moment g.D.Disk.since g.D.Disk.images g.met.D.Disk.counts g.met.D.Disk.only true c.args.first_is_stale c.args.disks.now c.quiet_stale.new.disks a
    (dormant_unmade c.args.second_is_stale (g.D.Disk.images c.args.disks.now.b) b) c.quiet_stale.ensures.torn c.quiet_stale.ensures.same c.quiet_stale.ensures.left)

pub returns-in_err-quiet_stale-clause-side_b : goal.returns-in_err-quiet_stale-clause-side_b
returns-in_err-quiet_stale-clause-side_b g c = leads_still g.D.Disk.moment g.D.Disk.since g.D.Disk.images (Torn 0 1) c.args.disks.now.b _ (g.met.D.Disk.counts c.args.disks.now.b) (g.met.D.Disk.only c.args.disks.now.b) (λ s. torn_none 0 1 s) c.quiet_stale.ensures.same

pub returns-in_err-quiet_stale-clause-left_a : goal.returns-in_err-quiet_stale-clause-left_a
returns-in_err-quiet_stale-clause-left_a g c e = ap (λ d. d.a) (c.quiet_stale.ensures.left e)

pub returns-clause-goes : goal.returns-clause-goes
returns-clause-goes g c a b =
    let first = shut_goes g.D.Disk.moment g.D.Disk.since g.D.Disk.images g.met.D.Disk.counts g.met.D.Disk.only true c.args.first_is_stale c.args.disks.now c.quiet_stale.new.disks a
    (dormant_unmade c.args.second_is_stale (g.D.Disk.images c.args.disks.now.b) b) c.quiet_stale.ensures.torn c.quiet_stale.ensures.same c.quiet_stale.ensures.left in
    let unused = shut_unused g.D.Disk.images c.args.first_is_stale c.args.disks.now.a c.quiet_stale.new.disks.a (λ e. ap (λ d. d.a) (c.quiet_stale.ensures.left e)) c.in_ok-quiet_stale.ensures.shut a.unused in
    then _ c.quiet_stale.new.disks _ first
    (once _ _ (shut_goes g.D.Disk.moment g.D.Disk.since g.D.Disk.images g.met.D.Disk.counts g.met.D.Disk.only false c.args.second_is_stale c.quiet_stale.new.disks c.quiet_stale-2.new.disks
    (subst (λ d. Dormant c.args.second_is_stale (g.D.Disk.images d)) (sym c.quiet_stale.ensures.same) b)
    (unused_unmade (g.D.Disk.images c.quiet_stale.new.disks.a) unused) c.quiet_stale-2.ensures.torn c.quiet_stale-2.ensures.same c.quiet_stale-2.ensures.left))

pub returns-clause-unused_a : goal.returns-clause-unused_a
returns-clause-unused_a g c = ok_all c.quiet_stale-2.result _ (λ was.
    subst (λ d. Unused (g.D.Disk.images d)) (sym c.quiet_stale-2.ensures.same)
    (shut_unused g.D.Disk.images c.args.first_is_stale c.args.disks.now.a c.quiet_stale.new.disks.a (λ e. ap (λ d. d.a) (c.quiet_stale.ensures.left e)) c.in_ok-quiet_stale.ensures.shut was))

pub returns-clause-unused_b : goal.returns-clause-unused_b
returns-clause-unused_b g c = ok_more c.quiet_stale-2.result _ _ (λ is_shut was.
    shut_unused g.D.Disk.images c.args.second_is_stale c.quiet_stale.new.disks.b c.quiet_stale-2.new.disks.b (λ e. ap (λ d. d.b) (c.quiet_stale-2.ensures.left e)) is_shut
    (λ e. subst (λ d. Unused (g.D.Disk.images d)) (sym c.quiet_stale.ensures.same) (was e))) c.quiet_stale-2.ensures.shut

pub returns-clause-side_a : goal.returns-clause-side_a
returns-clause-side_a g c = subst (λ d. Leads g.D.Disk.moment g.D.Disk.since g.D.Disk.images (Torn 0 1) c.args.disks.now.a d) (sym c.quiet_stale-2.ensures.same) c.quiet_stale.ensures.torn

pub returns-clause-side_b : goal.returns-clause-side_b
returns-clause-side_b g c = subst (λ d. Leads g.D.Disk.moment g.D.Disk.since g.D.Disk.images (Torn 0 1) d c.quiet_stale-2.new.disks.b) c.quiet_stale.ensures.same c.quiet_stale-2.ensures.torn

pub returns-clause-left_a : goal.returns-clause-left_a
returns-clause-left_a g c e = c.quiet_stale-2.ensures.same ∙ ap (λ d. d.a) (c.quiet_stale.ensures.left e)

pub returns-clause-left_b : goal.returns-clause-left_b
returns-clause-left_b g c e = ap (λ d. d.b) (c.quiet_stale-2.ensures.left e) ∙ c.quiet_stale.ensures.same
