use Rattle.std.proofs.Common.{take}
use Rattle.std.specs.List.{flat_map}
use Rattle.wfs_ends.specs.Ends.{Writes}
use Rattle.service_docs.specs.CapabilitiesDocument.{type_text}
use Rattle.service_docs.proofs.capabilities.put_each_type.Given as goal

abbrev pub invariant-loop-of_type : goal.invariant-loop-of_type
invariant-loop-of_type g l = Writes (record { shown = g.S.Sink.sink l.fn.sink; failed = l.fn.failed }) (flat_map (type_text l.schema) (take l.of_type-index l.of_type-items)) (record { shown = g.S.Sink.sink l.sink; failed = l.failed })
