use Rattle.wfs_ends.proofs.Writing.{wrote_steps}
use Rattle.service_docs.specs.CapabilitiesDocument.{other_system_text}
use Rattle.service_docs.proofs.capabilities.put_other_system.Goals as goal

pub returns : goal.returns
unfolding other_system_text
returns g c = search wrote_steps depth 24
