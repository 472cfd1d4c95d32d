use Rattle.std.proofs.Common.{take}
use Rattle.std.specs.List.{flat_map}
use Rattle.wfs_ends.specs.Ends.{Writes}
use Rattle.reply_documents.specs.Locks.{id_text}
use Rattle.reply_documents.proofs.lock.put_each_id.Given as goal

abbrev pub invariant-loop-id : goal.invariant-loop-id
invariant-loop-id g l = Writes (record { shown = g.S.Sink.sink l.fn.sink; failed = l.fn.failed }) (flat_map (id_text l.schema) (take l.id-index l.id-items)) (record { shown = g.S.Sink.sink l.sink; failed = l.failed })
