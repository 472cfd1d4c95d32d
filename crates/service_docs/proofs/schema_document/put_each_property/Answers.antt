use Rattle.std.proofs.Common.{arith}
use Rattle.wfs_ends.proofs.Writing.{wrote_more}
use Rattle.service_docs.specs.SchemaDocument.{property_text}
use Rattle.service_docs.proofs.schema_document.put_each_property.Goals as goal

pub loop-property-preserved : goal.loop-property-preserved
loop-property-preserved g c =
    wrote_more property_text c.items-property-items.result.now c.loop-property.property-index c.property-item.result _ _ _ (omega arith) c.property-item.is c.loop-property.invariant c.put_property-failed.ensures
