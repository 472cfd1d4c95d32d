use Rattle.std.proofs.Common.{arith}
use Rattle.wfs_ends.proofs.Writing.{wrote_more}
use Rattle.service_docs.specs.CapabilitiesDocument.{type_text}
use Rattle.service_docs.proofs.capabilities.put_each_type.Goals as goal

pub loop-of_type-preserved : goal.loop-of_type-preserved
loop-of_type-preserved g c =
    wrote_more (type_text c.args.schema.now) c.items-of_type-items.result.now c.loop-of_type.of_type-index c.of_type-item.result _ _ _ (omega arith) c.of_type-item.is c.loop-of_type.invariant c.put_type-failed.ensures
