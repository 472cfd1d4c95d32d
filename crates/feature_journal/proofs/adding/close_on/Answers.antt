use Rattle.std.proofs.Common.{[], ◌∷◌, ◌++◌, arith}
use Rattle.disk_core.specs.Disk.{Begins}
use Rattle.disk_core.proofs.Fronts.{keeps_torn, keeps_same}
use Rattle.disk_core.proofs.Seen.{ok_more, every_stable}
use Rattle.feature_journal.specs.Making.{inner}
use Rattle.feature_journal.proofs.Added.{closed_read, side_long}
use Rattle.feature_journal.proofs.adding.close_on.Goals as goal

pub returns-in_err-write_at-clause-kept : goal.returns-in_err-write_at-clause-kept
returns-in_err-write_at-clause-kept g c =
    let m = c.requires.making in
    keeps_torn g.D.Disk.moment g.D.Disk.since g.D.Disk.images 1 c.args.place _ _ _ (omega (arith, side_long m.0 m.1, m.2.size)) c.write_at.ensures.crash

pub returns-clause-kept : goal.returns-clause-kept
returns-clause-kept g c =
    let m = c.requires.making in
    keeps_same g.D.Disk.moment g.D.Disk.since g.D.Disk.images 1 _ c.write_at.new.self _ (keeps_torn g.D.Disk.moment g.D.Disk.since g.D.Disk.images 1 c.args.place _ _ _ (omega (arith, side_long m.0 m.1, m.2.size)) c.write_at.ensures.crash) c.sync.ensures.crash

pub returns-clause-closed : goal.returns-clause-closed
returns-clause-closed g c = ok_more c.sync.result _ _ (λ stable generation added m.
    let at_last = closed_read generation c.args.place added _ _ m.size c.in_ok-write_at.ensures.done m.reads in
    λ image here. record { byte = 0; is = every_stable _ _ (Begins (0 ∷ (inner generation added ++ 0 ∷ []))) stable at_last image here }) c.sync.ensures.stable
