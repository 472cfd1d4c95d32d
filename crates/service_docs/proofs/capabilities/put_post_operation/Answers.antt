use Rattle.wfs_ends.proofs.Writing.{wrote_steps}
use Rattle.service_docs.specs.CapabilitiesDocument.{post_operation_text}
use Rattle.service_docs.proofs.capabilities.put_post_operation.Goals as goal

pub returns : goal.returns
unfolding post_operation_text
returns g c = search wrote_steps depth 24
