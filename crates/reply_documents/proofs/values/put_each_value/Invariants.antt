use Rattle.std.proofs.Common.{take}
use Rattle.std.specs.List.{flat_map}
use Rattle.wfs_ends.specs.Ends.{Writes}
use Rattle.reply_documents.specs.Collection.{value_member_text}
use Rattle.reply_documents.proofs.values.put_each_value.Given as goal

abbrev pub invariant-loop-feature : goal.invariant-loop-feature
invariant-loop-feature g l = Writes (record { shown = g.S.Sink.sink l.fn.sink; failed = l.fn.failed }) (flat_map (value_member_text l.schema l.property) (take l.feature-index l.feature-items)) (record { shown = g.S.Sink.sink l.sink; failed = l.failed })
