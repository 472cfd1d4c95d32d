use Rattle.http_session.proofs.Cuts.{space_found, space_ended, no_space}
use Rattle.http_session.proofs.head.target_space.Goals as goal

pub returns-then-is_empty : goal.returns-then-is_empty
returns-then-is_empty c = space_found _ _ _ _ _ _ _ _ c.split_run.ensures c.split_run-2.ensures c.in-Some.ensures c.split_run-3.ensures c.if-is_empty.ensures

pub returns-else-is_empty : goal.returns-else-is_empty
returns-else-is_empty c = space_ended _ _ _ _ _ _ _ _ c.split_run.ensures c.split_run-2.ensures c.in-Some.ensures c.split_run-3.ensures c.if-is_empty.ensures

pub returns-in_default : goal.returns-in_default
returns-in_default c = no_space _ _ _ _ _ c.split_run.ensures c.split_run-2.ensures c.in_default.ensures
