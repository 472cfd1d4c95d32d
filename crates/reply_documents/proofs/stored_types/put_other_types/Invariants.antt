use Rattle.std.proofs.Common.{take}
use Rattle.std.specs.List.{flat_map}
use Rattle.wfs_ends.specs.Ends.{Writes}
use Rattle.reply_documents.specs.StoredQueries.{type_between}
use Rattle.reply_documents.proofs.stored_types.put_other_types.Given as goal

abbrev pub invariant-loop-of_type : goal.invariant-loop-of_type
invariant-loop-of_type g l = Writes (record { shown = g.S.Sink.sink l.fn.sink; failed = l.fn.failed }) (flat_map (type_between l.later l.schema l.end) (take l.of_type-index l.types)) (record { shown = g.S.Sink.sink l.sink; failed = l.failed })
