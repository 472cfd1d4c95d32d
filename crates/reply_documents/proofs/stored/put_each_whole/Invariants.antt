use Rattle.std.proofs.Common.{take}
use Rattle.std.specs.List.{flat_map}
use Rattle.wfs_ends.specs.Ends.{Writes}
use Rattle.reply_documents.specs.StoredQueries.{whole_text}
use Rattle.reply_documents.proofs.stored.put_each_whole.Given as goal

abbrev pub invariant-loop-stored : goal.invariant-loop-stored
invariant-loop-stored g l = Writes (record { shown = g.S.Sink.sink l.fn.sink; failed = l.fn.failed }) (flat_map (whole_text l.schema) (take l.stored-index l.stored-items)) (record { shown = g.S.Sink.sink l.sink; failed = l.failed })
