use Rattle.std.proofs.Common.{[], false, subst, sym}
use Rattle.disk_core.specs.Disk.{Torn, Same}
use Rattle.disk_core.specs.Sides.{chosen, Within}
use Rattle.disk_core.proofs.Runs.{leads_more, every_on}
use Rattle.disk_core.proofs.Seen.{ok_more, ok_all}
use Rattle.feature_journal.specs.Side.{side, Closed}
use Rattle.feature_journal.specs.Settled.{Known, SaysOr}
use Rattle.feature_journal.proofs.Quieted.{torn_same, synced_goes, closing_goes, placed_held}
use Rattle.feature_journal.proofs.settling.close.Goals as goal

pub returns-then-is_closed-clause-torn : goal.returns-then-is_closed-clause-torn
returns-then-is_closed-clause-torn g c = leads_more g.D.Disk.moment g.D.Disk.since g.D.Disk.images Same (Torn c.args.gate 1) _ _ (torn_same c.args.gate 1) c.sync_chosen.ensures.crash

pub returns-then-is_closed-clause-goes : goal.returns-then-is_closed-clause-goes
returns-then-is_closed-clause-goes g c r k =
    subst (λ s. Within g.D.Disk.moment g.D.Disk.since (SaysOr s r) c.args.disks.now c.sync_chosen.new.disks) (sym c.if-is_closed.true)
    (synced_goes g.D.Disk.moment g.D.Disk.since g.D.Disk.images g.met.D.Disk.counts g.met.D.Disk.only c.args.second c.args.gate r c.args.disks.now c.sync_chosen.new.disks
    (subst (λ s. Known g.D.Disk.images c.args.second c.args.gate false s r c.args.disks.now) c.if-is_closed.true k) c.sync_chosen.ensures.crash c.sync_chosen.ensures.same)

pub returns-then-is_closed-clause-held : goal.returns-then-is_closed-clause-held
returns-then-is_closed-clause-held g c = ok_all c.sync_chosen.result _ (λ generation bodies p.
    placed_held g.D.Disk.images c.args.second c.args.gate c.args.is_closed generation bodies c.args.disks.now c.sync_chosen.new.disks p
    (every_on g.D.Disk.moment g.D.Disk.since g.D.Disk.images Same (Closed (side generation bodies)) (Closed (side generation bodies)) (chosen c.args.second c.args.disks.now) (chosen c.args.second c.sync_chosen.new.disks)
    (λ d e b same. subst (Closed (side generation bodies)) (sym same) b) c.sync_chosen.ensures.crash (p.closed c.if-is_closed.true)) c.sync_chosen.ensures.same)

pub returns-else-is_closed-clause-goes : goal.returns-else-is_closed-clause-goes
returns-else-is_closed-clause-goes g c r k =
    subst (λ s. Within g.D.Disk.moment g.D.Disk.since (SaysOr s r) c.args.disks.now c.close_gate.new.disks) (sym c.if-is_closed.false)
    (closing_goes g.D.Disk.moment g.D.Disk.since g.D.Disk.images g.met.D.Disk.counts g.met.D.Disk.only c.args.second c.args.gate r c.args.disks.now c.close_gate.new.disks
    (subst (λ s. Known g.D.Disk.images c.args.second c.args.gate false s r c.args.disks.now) c.if-is_closed.false k) c.close_gate.ensures.torn c.close_gate.ensures.same)

pub returns-else-is_closed-clause-held : goal.returns-else-is_closed-clause-held
returns-else-is_closed-clause-held g c = ok_more c.close_gate.result _ _ (λ set generation bodies p.
    placed_held g.D.Disk.images c.args.second c.args.gate c.args.is_closed generation bodies c.args.disks.now c.close_gate.new.disks p (set (side generation bodies) [] p.size p.ends) c.close_gate.ensures.same) c.close_gate.ensures.set
