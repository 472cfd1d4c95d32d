use Rattle.wfs_ends.proofs.Writing.{wrote_steps}
use Rattle.service_docs.specs.CapabilitiesDocument.{declared_text}
use Rattle.service_docs.proofs.capabilities.put_declared.Goals as goal

pub returns : goal.returns
unfolding declared_text
returns g c = search wrote_steps depth 24
