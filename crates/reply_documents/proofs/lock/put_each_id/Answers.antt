use Rattle.std.proofs.Common.{arith, rules}
use Rattle.wfs_ends.proofs.Writing.{wrote_more}
use Rattle.reply_documents.specs.Locks.{id_text}
use Rattle.reply_documents.proofs.lock.put_each_id.Goals as goal

pub loop-id-preserved : goal.loop-id-preserved
loop-id-preserved g c =
    wrote_more (id_text c.args.schema.now) c.items-id-items.result.now c.loop-id.id-index _ _ _ _ (omega arith) (search rules) c.loop-id.invariant c.put_id-failed.ensures
