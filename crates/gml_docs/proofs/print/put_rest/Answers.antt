use Rattle.std.proofs.Common.{arith}
use Rattle.wfs_ends.proofs.Writing.{wrote_nothing, wrote_more}
use Rattle.gml_docs.specs.Written.{next_text}
use Rattle.gml_docs.proofs.print.put_rest.Goals as goal

pub loop-p-preserved : goal.loop-p-preserved
loop-p-preserved g c = wrote_more next_text c.args.positions.now c.loop-p.p-index c.p-item.result _ _ _ (omega arith) c.p-item.is c.loop-p.invariant c.put_next-failed.ensures

pub loop-p-init : goal.loop-p-init
loop-p-init g c = wrote_nothing _
