use Rattle.std.proofs.Common.{inl, inr}
use Rattle.wfsd_program.proofs.Closing.{served_by, unserved_by}
use Rattle.wfsd_program.proofs.Standing.{as_left, left_open}
use Rattle.wfsd_program.proofs.serving.serve_slots.Goals as goal

pub returns-in-Ran-clause-serves : goal.returns-in-Ran-clause-serves
returns-in-Ran-clause-serves g c =
    inr (served_by c.leave_ended.result g.D.Disk.faults g.A.Acceptor.accepting g.C.Clock.moments c.args.limit c.args.store c.in-Ran.store c.args.slots.items c.in-Ran.workers.items _ _ _
    c.in-Ran.ensures.ran c.leave_ended.ensures (rw c.deref.ensures.value at c.say_ended-status.ensures))

pub returns-in-Ran-clause-left : goal.returns-in-Ran-clause-left
returns-in-Ran-clause-left g c =
    as_left _ _ c.in-Ran.store c.leave_ended.result c.leave_ended.ensures.leaves
    (left_open g.D.Disk c.args.store c.in-Ran.store c.requires.fresh.begun c.in-Ran.ensures.ran.legal c.in-Ran.ensures.ran.opening c.in-Ran.ensures.stands)

pub returns-in-NoMemory-clause-serves : goal.returns-in-NoMemory-clause-serves
returns-in-NoMemory-clause-serves g c =
    inl (unserved_by c.leave_standing.result c.args.store c.in-NoMemory.store c.args.slots.items c.in-NoMemory.slots.items _ _ c.in-NoMemory.ensures.kept.0 c.in-NoMemory.ensures.kept.1
    c.leave_standing.ensures.leaves c.say.ensures)
