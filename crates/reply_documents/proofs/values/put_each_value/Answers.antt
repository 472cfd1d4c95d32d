use Rattle.std.proofs.Common.{arith}
use Rattle.wfs_ends.proofs.Writing.{wrote_more}
use Rattle.reply_documents.specs.Collection.{value_member_text}
use Rattle.reply_documents.proofs.values.put_each_value.Goals as goal

pub loop-feature-preserved : goal.loop-feature-preserved
loop-feature-preserved g c =
    wrote_more (value_member_text c.args.schema.now c.args.property) c.items-feature-items.result.now c.loop-feature.feature-index c.feature-item.result _ _ _ (omega arith) c.feature-item.is c.loop-feature.invariant c.put_value_member-failed.ensures
