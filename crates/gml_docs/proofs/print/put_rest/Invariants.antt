use Rattle.std.proofs.Common.{take}
use Rattle.std.specs.List.{flat_map}
use Rattle.wfs_ends.specs.Ends.{Writes}
use Rattle.gml_docs.specs.Written.{next_text}
use Rattle.gml_docs.proofs.print.put_rest.Given as goal

abbrev pub invariant-loop-p : goal.invariant-loop-p
invariant-loop-p g l = Writes (record { shown = g.S.Sink.sink l.fn.sink; failed = l.fn.failed }) (flat_map next_text (take l.p-index l.positions)) (record { shown = g.S.Sink.sink l.sink; failed = l.failed })
