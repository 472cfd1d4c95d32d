use Rattle.wfs_ends.proofs.Given.{grows_none, grows_on, keeps_none, keeps_on}
use Rattle.wfs_ends.proofs.Buffering.{grows_put, keeps_behind}
use Rattle.wfs_ends.proofs.buffer.BufferedSink.put.Goals as goal

pub returns-then-hold-clause-keeps : goal.returns-then-hold-clause-keeps
returns-then-hold-clause-keeps g c = keeps_behind _ _ _ _ _ _ (grows_none _) (keeps_none _)

pub returns-clause-keeps : goal.returns-clause-keeps
returns-clause-keeps g c = keeps_behind _ _ _ _ _ _ (grows_on c.pass_on.ensures.grows (grows_put _ _ _ _ c.put.ensures.appended c.put.ensures.err)) (keeps_on _ _ _ c.pass_on.ensures.keeps c.put.ensures.keeps)
