use Rattle.std.proofs.Common.{◌≡◌, take}
use Rattle.wfs_ends.specs.Ends.{Writes}
use Rattle.reply_documents.specs.StoredQueries.{types_asked, types_between}
use Rattle.reply_documents.proofs.Types.{is_none_yet}
use Rattle.reply_documents.proofs.stored_types.put_asked_types.Given as goal

abbrev pub invariant-loop-at : goal.invariant-loop-at
invariant-loop-at g l =
    Writes (record { shown = g.S.Sink.sink l.fn.sink; failed = l.fn.failed }) (types_between l.first l.later l.schema l.end (types_asked l.schema (take l.at l.queries))) (record { shown = g.S.Sink.sink l.sink; failed = l.failed })
    × (l.is_first ≡ is_none_yet (types_asked l.schema (take l.at l.queries)))
