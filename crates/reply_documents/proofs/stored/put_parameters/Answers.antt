use Rattle.std.proofs.Common.{arith}
use Rattle.wfs_ends.proofs.Writing.{wrote_more}
use Rattle.reply_documents.specs.StoredQueries.{parameter_text}
use Rattle.reply_documents.proofs.stored.put_parameters.Goals as goal

pub loop-name-preserved : goal.loop-name-preserved
loop-name-preserved g c =
    wrote_more parameter_text c.items-name-items.result.now c.loop-name.name-index c.name-item.result _ _ _ (omega arith) c.name-item.is c.loop-name.invariant c.put_parameter-failed.ensures
