use Rattle.std.proofs.Common.{true, false, refl, sym, subst, inr}
use Rattle.disk_core.proofs.Runs.{goes_more}
use Rattle.disk_core.proofs.Seen.{ok_more}
use Rattle.feature_journal.specs.Side.{Closed, Begun, ClosedOrBegun, side}
use Rattle.disk_core.specs.Sides.{chosen}
use Rattle.feature_journal.specs.Held.{HeldClosed, HeldBegun, IsStable}
use Rattle.feature_journal.proofs.Pairs.{held_goes, held_now}
use Rattle.feature_journal.proofs.sides.repair_to.Goals as goal

pub returns-then-second-clause-goes : goal.returns-then-second-clause-goes
returns-then-second-clause-goes g c generation bodies body fits held =
    let here = subst (λ s. HeldBegun g.D.Disk.images s generation c.args.gate bodies body c.args.disks.now) c.if-second.true held in
    held_goes g.D.Disk.moment g.D.Disk.since g.D.Disk.images g.met.D.Disk.counts g.met.D.Disk.only true generation c.args.gate bodies body (λ front. Begun front body) c.args.disks.now _ fits here
    (goes_more g.D.Disk.moment g.D.Disk.since g.D.Disk.images (Begun (side generation bodies) body) (ClosedOrBegun (side generation bodies) body) c.args.disks.now.b _ (λ e begun. inr begun) (c.repair_on.ensures.goes (side generation bodies) body here.size here.ends)) refl

pub returns-then-second-clause-still : goal.returns-then-second-clause-still
returns-then-second-clause-still g c generation bodies body held =
    let here = subst (λ s. HeldBegun g.D.Disk.images s generation c.args.gate bodies body c.args.disks.now) c.if-second.true held in
    subst (λ s. HeldBegun g.D.Disk.images s generation c.args.gate bodies body (record { a = c.args.disks.now.a; b = c.repair_on.new.disk })) (sym c.if-second.true)
    (held_now g.D.Disk.images true generation c.args.gate bodies (λ front. Begun front body) (λ front. Begun front body) c.args.disks.now _ here (c.repair_on.ensures.still (side generation bodies) body here.size here.ends) refl)

pub returns-then-second-clause-closed : goal.returns-then-second-clause-closed
returns-then-second-clause-closed g c = ok_more c.repair_on.result _ _ (λ closed generation bodies body held.
    let here = subst (λ s. HeldBegun g.D.Disk.images s generation c.args.gate bodies body c.args.disks.now) c.if-second.true held in
    subst (λ s. HeldClosed g.D.Disk.images s generation c.args.gate bodies (record { a = c.args.disks.now.a; b = c.repair_on.new.disk })) (sym c.if-second.true)
    (held_now g.D.Disk.images true generation c.args.gate bodies (λ front. Begun front body) Closed c.args.disks.now _ here (closed (side generation bodies) body here.size here.ends) refl)) c.repair_on.ensures.closed

pub returns-else-second-clause-goes : goal.returns-else-second-clause-goes
returns-else-second-clause-goes g c generation bodies body fits held =
    let here = subst (λ s. HeldBegun g.D.Disk.images s generation c.args.gate bodies body c.args.disks.now) c.if-second.false held in
    held_goes g.D.Disk.moment g.D.Disk.since g.D.Disk.images g.met.D.Disk.counts g.met.D.Disk.only false generation c.args.gate bodies body (λ front. Begun front body) c.args.disks.now _ fits here
    (goes_more g.D.Disk.moment g.D.Disk.since g.D.Disk.images (Begun (side generation bodies) body) (ClosedOrBegun (side generation bodies) body) c.args.disks.now.a _ (λ e begun. inr begun) (c.repair_on-else-second.ensures.goes (side generation bodies) body here.size here.ends)) refl

pub returns-else-second-clause-still : goal.returns-else-second-clause-still
returns-else-second-clause-still g c generation bodies body held =
    let here = subst (λ s. HeldBegun g.D.Disk.images s generation c.args.gate bodies body c.args.disks.now) c.if-second.false held in
    subst (λ s. HeldBegun g.D.Disk.images s generation c.args.gate bodies body (record { a = c.repair_on-else-second.new.disk; b = c.args.disks.now.b })) (sym c.if-second.false)
    (held_now g.D.Disk.images false generation c.args.gate bodies (λ front. Begun front body) (λ front. Begun front body) c.args.disks.now _ here (c.repair_on-else-second.ensures.still (side generation bodies) body here.size here.ends) refl)

pub returns-else-second-clause-closed : goal.returns-else-second-clause-closed
returns-else-second-clause-closed g c = ok_more c.repair_on-else-second.result _ _ (λ closed generation bodies body held.
    let here = subst (λ s. HeldBegun g.D.Disk.images s generation c.args.gate bodies body c.args.disks.now) c.if-second.false held in
    subst (λ s. HeldClosed g.D.Disk.images s generation c.args.gate bodies (record { a = c.repair_on-else-second.new.disk; b = c.args.disks.now.b })) (sym c.if-second.false)
    (held_now g.D.Disk.images false generation c.args.gate bodies (λ front. Begun front body) Closed c.args.disks.now _ here (closed (side generation bodies) body here.size here.ends) refl)) c.repair_on-else-second.ensures.closed

pub returns-then-second-clause-stable : goal.returns-then-second-clause-stable
returns-then-second-clause-stable g c = ok_more c.repair_on.result _ _ (λ stable. subst (λ s. IsStable g.D.Disk.shown g.D.Disk.images (chosen s (record { a = c.args.disks.now.a; b = c.repair_on.new.disk }))) (sym c.if-second.true) stable) c.repair_on.ensures.stable

pub returns-else-second-clause-stable : goal.returns-else-second-clause-stable
returns-else-second-clause-stable g c = ok_more c.repair_on-else-second.result _ _ (λ stable. subst (λ s. IsStable g.D.Disk.shown g.D.Disk.images (chosen s (record { a = c.repair_on-else-second.new.disk; b = c.args.disks.now.b }))) (sym c.if-second.false) stable) c.repair_on-else-second.ensures.stable
