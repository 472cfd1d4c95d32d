use Rattle.std.proofs.Common.{take}
use Rattle.std.specs.List.{flat_map}
use Rattle.wfs_ends.specs.Ends.{Writes}
use Rattle.service_docs.specs.SchemaDocument.{property_text}
use Rattle.service_docs.proofs.schema_document.put_each_property.Given as goal

abbrev pub invariant-loop-property : goal.invariant-loop-property
invariant-loop-property g l = Writes (record { shown = g.S.Sink.sink l.fn.sink; failed = l.fn.failed }) (flat_map property_text (take l.property-index l.property-items)) (record { shown = g.S.Sink.sink l.sink; failed = l.failed })
