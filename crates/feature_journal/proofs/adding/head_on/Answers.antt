use Rattle.std.proofs.Common.{arith, refl}
use Rattle.disk_core.proofs.Fronts.{keeps_torn}
use Rattle.disk_core.proofs.Seen.{ok_more}
use Rattle.feature_journal.specs.Side.{side}
use Rattle.feature_journal.proofs.Added.{head_read, shut_kept}
use Rattle.feature_journal.proofs.adding.head_on.Goals as goal

pub returns-clause-kept : goal.returns-clause-kept
returns-clause-kept g c = keeps_torn g.D.Disk.moment g.D.Disk.since g.D.Disk.images 1 1 _ _ _ (omega arith) c.write_framed.ensures.crash

pub returns-clause-begun : goal.returns-clause-begun
unfolding side
returns-clause-begun g c = ok_more c.write_framed.result _ _ (λ done. record {
  list = record { generation_fits = c.ranges.generation.fits; bodies_fit = tt };
  size = refl;
  shut = shut_kept g.D.Disk.moment g.D.Disk.since g.D.Disk.images _ _ c.requires.0 (returns-clause-kept g c);
  reads = head_read c.args.generation c.to_be_bytes.result _ _ c.to_be_bytes.ensures done c.requires.1;
}) c.write_framed.ensures.done
