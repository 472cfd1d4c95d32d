use Rattle.std.proofs.Common.{arith}
use Rattle.wfs_ends.proofs.Writing.{wrote_more}
use Rattle.reply_documents.specs.StoredQueries.{type_between}
use Rattle.reply_documents.proofs.stored_types.put_other_types.Goals as goal

pub loop-of_type-preserved : goal.loop-of_type-preserved
loop-of_type-preserved g c =
    wrote_more (type_between c.args.later.now c.args.schema.now c.args.end.now) c.args.types.now c.loop-of_type.of_type-index c.of_type-item.result _ _ _ (omega arith) c.of_type-item.is c.loop-of_type.invariant c.put_type-failed.ensures
