use Rattle.std.proofs.Common.{arith}
use Rattle.wfs_ends.proofs.Writing.{wrote_more}
use Rattle.reply_documents.specs.Transacted.{made_text}
use Rattle.reply_documents.proofs.transacted.put_made_list.Goals as goal

pub loop-feature-preserved : goal.loop-feature-preserved
loop-feature-preserved g c =
    wrote_more (made_text c.args.schema.now) c.items-feature-items.result.now c.loop-feature.feature-index c.feature-item.result _ _ _ (omega arith) c.feature-item.is c.loop-feature.invariant c.put_made-failed.ensures
