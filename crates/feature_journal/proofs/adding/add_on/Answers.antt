use Rattle.std.proofs.Common.{length, length-append, ap, arith}
use Rattle.feature_journal.specs.Side.{side, opened}
use Rattle.disk_core.proofs.Fronts.{keeps_torn}
use Rattle.disk_core.proofs.Seen.{ok_more}
use Rattle.feature_journal.proofs.Whole.{list_push, side_push}
use Rattle.feature_journal.proofs.Pairs.{length-framed}
use Rattle.feature_journal.proofs.Added.{added_read, shut_kept, side_long}
use Rattle.feature_journal.proofs.adding.add_on.Goals as goal

pub returns-clause-kept : goal.returns-clause-kept
returns-clause-kept g c =
    let m = c.requires.making in
    keeps_torn g.D.Disk.moment g.D.Disk.since g.D.Disk.images 1 c.args.place _ _ _ (omega (arith, side_long m.0 m.1, m.2.size)) c.write_framed.ensures.crash

pub returns-clause-added : goal.returns-clause-added
returns-clause-added g c = ok_more c.write_framed.result _ _ (λ done generation added m. record {
  list = list_push generation added c.args.body.now m.list c.requires.fits.0;
  size = omega (arith, ap length (side_push generation added c.args.body.now), length-append (side generation added) (opened c.args.body.now), length-framed c.args.body.now, m.size);
  shut = shut_kept g.D.Disk.moment g.D.Disk.since g.D.Disk.images _ _ m.shut (returns-clause-kept g c);
  reads = added_read generation c.args.place added c.args.body.now c.to_be_bytes-size.result _ _ m.size c.to_be_bytes-size.ensures done m.reads;
}) c.write_framed.ensures.done
