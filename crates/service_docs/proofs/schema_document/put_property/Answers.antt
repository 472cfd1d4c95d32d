use Rattle.wfs_ends.proofs.Writing.{wrote_steps}
use Rattle.service_docs.specs.SchemaDocument.{property_text}
use Rattle.service_docs.proofs.schema_document.put_property.Goals as goal

pub returns : goal.returns
unfolding property_text
returns g c = search wrote_steps depth 24
