use Rattle.wfsd_program.proofs.Standing.{as_left, left_fresh}
use Rattle.wfsd_program.proofs.serving.leave_standing.Goals as goal

pub returns-clause-left : goal.returns-clause-left
returns-clause-left g c = as_left _ _ c.args.store c.leave_idle.result c.leave_idle.ensures.leaves (left_fresh g.D.Disk c.args.store c.requires.entries c.requires.rests c.stands.ensures)
