use Rattle.std.proofs.Common.{length, subst, sym}
use Rattle.disk_core.specs.Disk.{SameOutside}
use Rattle.disk_core.proofs.Outside.{comes_outside, torn_outside}
use Rattle.disk_core.proofs.laws.write_and_sync.Goals as goal

pub returns-in_err-write_at-clause-outside : goal.returns-in_err-write_at-clause-outside
returns-in_err-write_at-clause-outside g c left here = comes_outside (g.D.Disk.images c.args.disk.now) c.args.at (length c.args.bytes.now) left (c.write_at.ensures.crash.now left here)

pub returns-clause-outside : goal.returns-clause-outside
returns-clause-outside g c left here =
    let synced = c.sync.ensures.crash.now left here in
    let from = c.write_at.ensures.crash.now synced.0 synced.1 in
    (from.0, from.1, subst (SameOutside c.args.at (length c.args.bytes.now) from.0) (sym synced.2) (torn_outside c.args.at (length c.args.bytes.now) from.0 synced.0 from.2))
