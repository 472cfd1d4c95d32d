use Rattle.service_session.proofs.Sessions.{UnderWay}
use Rattle.service_session.proofs.hold.session.Given as goal

abbrev pub invariant-loop-left : goal.invariant-loop-left
invariant-loop-left g l = UnderWay g.S.Service (g.C.Clock.moments l.fn.clock) l.fn.service (g.L.Source.source l.fn.link) l.reader (g.L.Source.source l.link) (g.C.Clock.moments l.clock) l.service l.left

abbrev pub decreases-loop-left : goal.decreases-loop-left
decreases-loop-left g l = l.left
