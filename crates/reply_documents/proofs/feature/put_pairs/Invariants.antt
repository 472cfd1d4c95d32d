use Rattle.std.proofs.Common.{take}
use Rattle.std.specs.List.{flat_map, zip}
use Rattle.wfs_ends.specs.Ends.{Writes}
use Rattle.reply_documents.specs.Features.{property_text}
use Rattle.reply_documents.proofs.feature.put_pairs.Given as goal

abbrev pub invariant-loop-i : goal.invariant-loop-i
invariant-loop-i g l = Writes (record { shown = g.S.Sink.sink l.fn.sink; failed = l.fn.failed }) (flat_map (property_text l.schema l.of_type l.number) (take l.i (zip l.properties l.values))) (record { shown = g.S.Sink.sink l.sink; failed = l.failed })
