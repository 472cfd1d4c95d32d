use Rattle.service_session.proofs.Sessions.{begins_session, goes_on, is_over}
use Rattle.service_session.proofs.hold.session.Goals as goal

pub loop-left-init : goal.loop-left-init
loop-left-init g c = begins_session g.S.Service _ _ _ _ (g.met.S.Service.stays _) c.requires.fresh

pub loop-left-preserved : goal.loop-left-preserved
loop-left-preserved g c = goes_on g.S.Service g.met.S.Service.follows _ _ _ _ _ _ _ c.loop-left.left c.loop-left.invariant _ _ _ _ c.in-On.ensures

pub returns-in-Over : goal.returns-in-Over
returns-in-Over g c = is_over g.S.Service g.met.S.Service.follows _ _ _ _ _ _ _ c.loop-left.left c.loop-left.invariant _ _ _ _ c.in-Over.end c.in-Over.ensures
