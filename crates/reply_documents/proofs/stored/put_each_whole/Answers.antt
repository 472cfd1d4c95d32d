use Rattle.std.proofs.Common.{arith}
use Rattle.wfs_ends.proofs.Writing.{wrote_more}
use Rattle.reply_documents.specs.StoredQueries.{whole_text}
use Rattle.reply_documents.proofs.stored.put_each_whole.Goals as goal

pub loop-stored-preserved : goal.loop-stored-preserved
loop-stored-preserved g c =
    wrote_more (whole_text c.args.schema.now) c.items-stored-items.result.now c.loop-stored.stored-index c.stored-item.result _ _ _ (omega arith) c.stored-item.is c.loop-stored.invariant c.put_whole-failed.ensures
