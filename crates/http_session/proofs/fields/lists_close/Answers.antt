use Rattle.http_session.proofs.FieldReads.{close_here, close_not, close_later}
use Rattle.http_session.proofs.fields.lists_close.Goals as goal

pub returns-then-is_padded : goal.returns-then-is_padded
returns-then-is_padded c = close_here _ _ _ _ c.split_run.ensures c.loop-tail.invariant c.if-is_padded.ensures

pub returns-in-None : goal.returns-in-None
returns-in-None c = close_not _ _ _ _ c.split_run.ensures c.in-None.ensures c.loop-tail.invariant c.if-is_padded.ensures

pub loop-tail-preserved : goal.loop-tail-preserved
loop-tail-preserved c = close_later _ _ _ _ _ c.split_run.ensures c.in-Some.ensures c.loop-tail.invariant c.if-is_padded.ensures
