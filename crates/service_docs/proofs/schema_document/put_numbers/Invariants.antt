use Rattle.std.proofs.Common.{take}
use Rattle.std.specs.List.{flat_map}
use Rattle.wfs_ends.specs.Ends.{Writes}
use Rattle.service_docs.specs.SchemaDocument.{numbered_text, each_once}
use Rattle.service_docs.proofs.schema_document.put_numbers.Given as goal

abbrev pub invariant-loop-at : goal.invariant-loop-at
invariant-loop-at g l = Writes (record { shown = g.S.Sink.sink l.fn.sink; failed = l.fn.failed }) (flat_map (numbered_text l.schema) (each_once (take l.at l.types))) (record { shown = g.S.Sink.sink l.sink; failed = l.failed })
