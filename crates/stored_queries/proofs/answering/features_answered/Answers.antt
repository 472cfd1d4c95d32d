use Rattle.stored_queries.proofs.Answers.{shown_is, refused_read}
use Rattle.stored_queries.proofs.answering.features_answered.Goals as goal

pub returns-in-Ok : goal.returns-in-Ok
returns-in-Ok g c = shown_is c.shown.result _ _ _ _ _ _ _ c.in-Ok.ensures (rw c.items.ensures at c.shown.ensures)

pub returns-in-Err : goal.returns-in-Err
returns-in-Err g c = refused_read c.refused.result c.in-Err.fault _ _ _ _ _ _ c.refused.ensures.value c.refused.ensures.memory c.in-Err.ensures
