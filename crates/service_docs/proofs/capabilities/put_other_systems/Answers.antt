use Rattle.std.proofs.Common.{arith}
use Rattle.wfs_ends.proofs.Writing.{wrote_more}
use Rattle.service_docs.specs.CapabilitiesDocument.{other_system_text}
use Rattle.service_docs.proofs.capabilities.put_other_systems.Goals as goal

pub loop-name-preserved : goal.loop-name-preserved
loop-name-preserved g c =
    wrote_more other_system_text c.args.names.now c.loop-name.name-index c.name-item.result _ _ _ (omega arith) c.name-item.is c.loop-name.invariant c.put_other_system-failed.ensures
