use Rattle.std.proofs.Common.{arith}
use Rattle.wfs_ends.proofs.Writing.{wrote_more}
use Rattle.reply_documents.specs.Collection.{member_text}
use Rattle.reply_documents.proofs.collection.put_each_member.Goals as goal

pub loop-feature-preserved : goal.loop-feature-preserved
loop-feature-preserved g c =
    wrote_more (member_text c.args.schema.now) c.items-feature-items.result.now c.loop-feature.feature-index c.feature-item.result _ _ _ (omega arith) c.feature-item.is c.loop-feature.invariant c.put_member-failed.ensures
