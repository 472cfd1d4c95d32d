use Rattle.wfs_ends.proofs.Writing.{wrote_steps}
use Rattle.service_docs.specs.CapabilitiesDocument.{capabilities_document}
use Rattle.service_docs.proofs.capabilities.put_capabilities_on.Goals as goal

pub returns : goal.returns
unfolding capabilities_document
returns g c = search wrote_steps depth 24
