use Rattle.wfs_ends.proofs.Writing.{wrote_steps}
use Rattle.service_docs.specs.SchemaDocument.{some_properties_text}
use Rattle.service_docs.proofs.schema_document.put_some_properties.Goals as goal

pub returns : goal.returns
unfolding some_properties_text
returns g c = search wrote_steps depth 24
