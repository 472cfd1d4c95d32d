use Rattle.std.proofs.Common.{take}
use Rattle.std.specs.List.{flat_map}
use Rattle.wfs_ends.specs.Ends.{Writes}
use Rattle.reply_documents.specs.StoredQueries.{parameter_text}
use Rattle.reply_documents.proofs.stored.put_parameters.Given as goal

abbrev pub invariant-loop-name : goal.invariant-loop-name
invariant-loop-name g l = Writes (record { shown = g.S.Sink.sink l.fn.sink; failed = l.fn.failed }) (flat_map parameter_text (take l.name-index l.name-items)) (record { shown = g.S.Sink.sink l.sink; failed = l.failed })
