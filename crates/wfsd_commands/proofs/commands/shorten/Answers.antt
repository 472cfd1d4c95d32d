use Rattle.std.proofs.Common.{inl, inr}
use Rattle.wfsd_commands.proofs.Leaving.{compacted_left, shorter, not_shorter}
use Rattle.wfsd_commands.proofs.commands.shorten.Goals as goal

pub returns-in-Ok-clause-shortened : goal.returns-in-Ok-clause-shortened
returns-in-Ok-clause-shortened g c = inl (shorter g.D.Disk c.args.store c.compact.new.self _ _ _ _ _ _ c.in-Ok.ensures c.side_length-before.ensures c.side_length-after.ensures c.leave_store.ensures c.say_sides.ensures)

pub returns-in-Ok-clause-left : goal.returns-in-Ok-clause-left
returns-in-Ok-clause-left g c = rw c.leave_store.ensures.store_is (compacted_left g.D.Disk c.args.store c.compact.new.self _ c.in-Ok.ensures c.requires.fresh c.requires.rests c.stands.ensures)

pub returns-in-Err-clause-shortened : goal.returns-in-Err-clause-shortened
returns-in-Err-clause-shortened g c = inr (not_shorter g.D.Disk c.args.store c.compact.new.self _ _ _ c.in-Err.fault _ c.in-Err.ensures c.leave_store-in-Err.ensures c.say_stopped.ensures.status c.say_stopped.ensures.says)

pub returns-in-Err-clause-left : goal.returns-in-Err-clause-left
returns-in-Err-clause-left g c = rw c.leave_store-in-Err.ensures.store_is (compacted_left g.D.Disk c.args.store c.compact.new.self _ c.in-Err.ensures c.requires.fresh c.requires.rests c.stands-in-Err.ensures)
