use Rattle.session_workers.specs.Working.{stand}
use Rattle.session_workers.proofs.Links.{UnderWay}
use Rattle.session_workers.proofs.working.work.Given as goal

abbrev pub invariant-loop-left : goal.invariant-loop-left
invariant-loop-left g l = UnderWay g.S.Service l.fn.limit (stand l.fn.service (g.C.Clock.moments l.fn.clock)) (g.A.Acceptor.accepting l.fn.acceptor) l.left (stand l.service (g.C.Clock.moments l.clock)) (g.A.Acceptor.accepting l.acceptor)

abbrev pub decreases-loop-left : goal.decreases-loop-left
decreases-loop-left g l = l.left
