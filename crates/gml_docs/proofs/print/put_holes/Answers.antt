use Rattle.std.proofs.Common.{arith}
use Rattle.wfs_ends.proofs.Writing.{wrote_nothing, wrote_more}
use Rattle.gml_docs.specs.Printed.{hole_text}
use Rattle.gml_docs.proofs.print.put_holes.Goals as goal

pub loop-hole-preserved : goal.loop-hole-preserved
loop-hole-preserved g c = wrote_more hole_text c.args.holes.now c.loop-hole.hole-index c.hole-item.result _ _ _ (omega arith) c.hole-item.is c.loop-hole.invariant c.put_hole-failed.ensures

pub loop-hole-init : goal.loop-hole-init
loop-hole-init g c = wrote_nothing _
