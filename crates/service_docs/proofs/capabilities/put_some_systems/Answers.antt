use Rattle.wfs_ends.proofs.Writing.{wrote_steps}
use Rattle.service_docs.specs.CapabilitiesDocument.{some_systems_text}
use Rattle.service_docs.proofs.capabilities.put_some_systems.Goals as goal

pub returns : goal.returns
unfolding some_systems_text
returns g c = search wrote_steps depth 24
