use Rattle.wfs_model.specs.Read.{read, values_asked}
use Rattle.stored_queries.proofs.Answers.{refused_is}
use Rattle.stored_queries.proofs.answering.values_answered.Goals as goal

pub returns-in-Err : goal.returns-in-Err
unfolding read values_asked
returns-in-Err g c = refused_is c.refused.result c.in-Err.fault _ _ c.refused.ensures.value c.refused.ensures.memory c.in-Err.ensures
