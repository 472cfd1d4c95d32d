use Rattle.std.proofs.Common.{take}
use Rattle.std.specs.List.{flat_map}
use Rattle.wfs_ends.specs.Ends.{Writes}
use Rattle.gml_docs.specs.Printed.{hole_text}
use Rattle.gml_docs.proofs.print.put_holes.Given as goal

abbrev pub invariant-loop-hole : goal.invariant-loop-hole
invariant-loop-hole g l = Writes (record { shown = g.S.Sink.sink l.fn.sink; failed = l.fn.failed }) (flat_map hole_text (take l.hole-index l.holes)) (record { shown = g.S.Sink.sink l.sink; failed = l.failed })
