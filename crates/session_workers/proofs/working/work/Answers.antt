use Rattle.session_workers.proofs.Links.{begins, goes_on, has_no_more, has_failed, has_all}
use Rattle.session_workers.proofs.working.work.Goals as goal

pub loop-left-init : goal.loop-left-init
loop-left-init g c = begins g.S.Service _ _ _ _ (g.met.S.Service.stays _) c.links_of-left.ensures

pub loop-left-preserved : goal.loop-left-preserved
loop-left-preserved g c = goes_on g.S.Service _ _ _ c.loop-left.left _ _ c.loop-left.invariant _ _ g.met.S.Service.stays g.met.S.Service.follows c.loop-left-test.true c.in-Served.ensures

pub returns-in-NoLink : goal.returns-in-NoLink
returns-in-NoLink g c = has_no_more g.S.Service _ _ _ c.loop-left.left _ _ c.loop-left.invariant _ _ c.loop-left-test.true c.in-NoLink.ensures

pub returns-in-Failed : goal.returns-in-Failed
returns-in-Failed g c = has_failed g.S.Service _ _ _ c.loop-left.left _ _ c.loop-left.invariant _ _ c.loop-left-test.true c.in-Failed.ensures

pub returns : goal.returns
returns g c = has_all g.S.Service _ _ _ c.loop-left.left _ _ c.loop-left.invariant c.loop-left-test.false
