use Rattle.std.proofs.Common.{take}
use Rattle.std.specs.List.{flat_map}
use Rattle.wfs_ends.specs.Ends.{Writes}
use Rattle.service_docs.specs.CapabilitiesDocument.{other_system_text}
use Rattle.service_docs.proofs.capabilities.put_other_systems.Given as goal

abbrev pub invariant-loop-name : goal.invariant-loop-name
invariant-loop-name g l = Writes (record { shown = g.S.Sink.sink l.fn.sink; failed = l.fn.failed }) (flat_map other_system_text (take l.name-index l.names)) (record { shown = g.S.Sink.sink l.sink; failed = l.failed })
